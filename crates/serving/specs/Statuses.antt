-- The exit statuses of `segcached serve`.
use Rattle.std.specs.Prelude.{ℕ}
use Rattle.net.specs.declared.fault.NetFault.{NetFault}
use Rattle.net.specs.declared.fault.NetFault.TheVariants as net
use Rattle.serving.specs.declared.fault.Fault.{Fault}
use Rattle.serving.specs.declared.fault.Fault.TheVariants as fault

-- 2 where the options name no address, else 3: the address can't be had now
abbrev pub listen_status : NetFault → ℕ
listen_status net.BadAddress = 2
listen_status net.BadPath = 2
listen_status (net.Refused refusal) = 3
listen_status net.NoMemory = 3

-- 2 after options that can't be met, 3 where the address can't be had, else 1
abbrev pub fault_status : Fault → ℕ
fault_status (fault.BadSizes why) = 2
fault_status (fault.CannotListen addr why) = listen_status why
fault_status fault.CannotWrite = 1
fault_status fault.NoThread = 1
fault_status (fault.Exchange why) = 1
fault_status (fault.Group why) = 1
fault_status fault.NoMemory = 1
