use Rattle.std.proofs.Common.{refl}
use Rattle.net.proofs.port.MioPortPort.give.Goals as goal
use Rattle.net.specs.Traces.{trace_of}

pub write-requires : goal.write-requires
write-requires g c = let trace = trace_of c.args.self.now.served in record {
  «open» = c.requires.«open» trace refl;
  said = c.requires.said trace refl;
}
