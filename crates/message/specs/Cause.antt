-- The numbers of the table of causes.
use Rattle.std.specs.Prelude.{ℕ}
use Rattle.message.specs.declared.FileCause.{FileCause}
use Rattle.message.specs.declared.FileCause.TheVariants.{Cut, NotShortest, BadKind, TooLarge, NoRoom}

-- "file ends inside a call 31", "file number not shortest, or its ninth byte has the top bit set 32", "call kind not 1..7 33" (document 02:
-- "byte 8 no longer meets 33"), "series count above 2,980, .. 34", "reader: series count above the length of the lent series buffer; writer: output
-- too short 35"
abbrev pub cause_number : FileCause → ℕ
cause_number Cut = 31
cause_number NotShortest = 32
cause_number BadKind = 33
cause_number TooLarge = 34
cause_number NoRoom = 35
