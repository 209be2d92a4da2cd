use Rattle.std.proofs.Common.{refl}
use Rattle.segments.specs.Items.{item_bytes, header_bytes}
use Rattle.store_tests.proofs.pool.layout.bytes_of_the_row.Goals as goal

pub returns-clause-bytes : goal.returns-clause-bytes
unfolding item_bytes header_bytes
returns-clause-bytes c = refl
