-- The entry that a note of a port stands for.
use Rattle.worker_port.specs.declared.events.PortRecord.{PortRecord}
use Rattle.worker_port.specs.declared.events.PortRecord.TheVariants as was
use Rattle.worker_port.specs.declared.events.PortNote.{PortNote}
use Rattle.worker_port.specs.declared.events.PortNote.TheVariants as is

abbrev pub noted_record : PortNote → PortRecord
noted_record (is.Opened s) = was.Opened s
noted_record (is.Data s bytes) = was.Data s bytes.now
noted_record (is.EndOfInput s) = was.EndOfInput s
noted_record (is.Gone s) = was.Gone s
noted_record is.Ended = was.Ended
noted_record (is.Accepted s bytes) = was.Accepted s bytes.now
noted_record (is.Shut s) = was.Shut s
