-- What the words after the program's name may ask for.
use Rattle.std.specs.Prelude.{◌≡◌, ℕ, ◌≤◌, ◌*◌, ⊤, Option, IfSome}
use Rattle.proto.specs.declared.dialect.Dialect.{Dialect}
use Rattle.proto.specs.declared.dialect.Dialect.TheVariants.{Lenient}
use Rattle.proto.specs.Sizes.{sizes_asked}
use Rattle.command_line.specs.declared.number_option.NumberOption.{NumberOption}
use Rattle.command_line.specs.declared.options.Options.{Options}
use Rattle.command_line.specs.declared.options.ServeOptions.{ServeOptions}
use Rattle.command_line.specs.declared.options.Job.{Job}
use Rattle.command_line.specs.declared.options.Job.TheVariants.{Help, Replay, Serve}

-- the number is one that the option may have
abbrev pub IsInRange : NumberOption → ℕ → Type 0
IsInRange option n = (option.least ≤ n) × (n ≤ option.most)

-- so many bytes of output are 4,194,304 for each of so many workers at least, and 1,099,511,627,776
-- at most
abbrev pub IsEnoughOutput : ℕ → ℕ → Type 0
IsEnoughOutput workers n = (4194304 * workers ≤ n) × (n ≤ 1099511627776)

-- leniently data blocks are kept that have no more bytes than the largest item
abbrev pub KeepsBlocks : Dialect → ℕ → Option ℕ → Type 0
KeepsBlocks d size largest = (limit : ℕ) → d ≡ Lenient limit → limit ≡ (sizes_asked size 0 largest).largest_item

-- 1 to 8 workers, segments of 4,096 to 1,048,576 bytes, 8 to 65,536 of them, a largest item of 512
-- to 1,048,512 bytes, if one is given, and at most 65,536 bytes accepted at once
pub record IsReplayInRange (o : Options) : Type 0 where
  pub workers : (1 ≤ o.workers) × (o.workers ≤ 8)
  pub segment_size : (4096 ≤ o.segment_size) × (o.segment_size ≤ 1048576)
  pub segments : (8 ≤ o.segments) × (o.segments ≤ 65536)
  pub max_item_size : IfSome o.max_item_size (λ n. (512 ≤ n) × (n ≤ 1048512))
  pub accept : o.accept ≤ 65536
  pub blocks : KeepsBlocks o.dialect o.segment_size o.max_item_size

-- the same of workers, segments and the largest item; and if they are given, 1 to 65,536
-- connections, output that is enough for the workers, at least one session, 1 to 4,294,967,295
-- seconds of silence, and at most 1,000,000 microseconds; and a mode of nine bits
pub record IsServeInRange (o : ServeOptions) : Type 0 where
  pub workers : (1 ≤ o.workers) × (o.workers ≤ 8)
  pub segment_size : (4096 ≤ o.segment_size) × (o.segment_size ≤ 1048576)
  pub segments : (8 ≤ o.segments) × (o.segments ≤ 65536)
  pub connections : IfSome o.connections (λ n. (1 ≤ n) × (n ≤ 65536))
  pub output_memory : IfSome o.output_memory (IsEnoughOutput o.workers)
  pub max_item_size : IfSome o.max_item_size (λ n. (512 ≤ n) × (n ≤ 1048512))
  pub sessions : IfSome o.sessions (λ n. 1 ≤ n)
  pub idle : IfSome o.idle (λ n. (1 ≤ n) × (n ≤ 4294967295))
  pub spin : IfSome o.spin (λ n. n ≤ 1000000)
  pub socket_mode : o.socket_mode ≤ 511
  pub blocks : KeepsBlocks o.dialect o.segment_size o.max_item_size

abbrev pub IsJob : Job → Type 0
IsJob (Help text) = ⊤
IsJob (Replay options) = IsReplayInRange options
IsJob (Serve options) = IsServeInRange options
