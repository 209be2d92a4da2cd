-- The marks that the fields of a `LiveMarks` stand for.
use Rattle.std.specs.Prelude.{◌≡◌, ◌/◌, length, All}
use Rattle.proto.specs.Sizes.{IsGeometry}
use Rattle.segments.specs.declared.live_marks.LiveMarks.TheInside.{Inside}
use Rattle.segments.specs.Marks.{Marks}

abbrev pub marks_of : Inside → Marks
marks_of a = record { sizes = a.geometry; rows = a.rows.items }

pub record AreMarksKept (a : Inside) : Type 0 where
  pub geometry : IsGeometry a.geometry
  pub count : length a.rows.items ≡ a.geometry.segments
  pub long : All (λ r. length r ≡ a.geometry.segment_size / 32) a.rows.items
