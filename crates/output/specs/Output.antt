-- The desk program's output, by the plain desk: "The desk program reads the first 65,536 bytes of standard input as the file, .."
use Rattle.std.specs.Prelude.{ℕ, ◌-◌, ◌*◌, cond, List, [], ◌++◌, map, eqb, ℤ, nat_abs, length, get_or, take}
use Rattle.quantity.specs.Limits.{most_quarters, runs, points, groups, book_rows, schedule_rows}
use Rattle.quantity.specs.Sum.{sum_to}
use Rattle.book.specs.Place.{group_row}
use Rattle.state.specs.Selection.{selected}
use Rattle.state.specs.Status.{status_number}
use Rattle.state.specs.declared.Selection.{Selection}
use Rattle.state.specs.declared.Selection.TheVariants.{None, Selected}
use Rattle.state.specs.declared.VersionRecord.{VersionRecord}
use Rattle.message.specs.Cause.{cause_number}
use Rattle.message.specs.File.{Ending, whole, stopped, Found, calls_in}
use Rattle.model.specs.Call.{Lengths, Told}
use Rattle.model.specs.Plain.{opening_of, versions_of, figure, plain_replies, plain_end}
use Rattle.replay.specs.Feeding.{tells}
use Rattle.replay.specs.Given.{given, given_in}
use Rattle.replay.specs.Replay.{numbers_of}
use Rattle.text.specs.Line.{answer_line, refusal_line, group_line, total_line, selection_line}
use Rattle.text.specs.Text.{each_to}

-- "the first 65,536 bytes of standard input"
abbrev pub file_size : ℕ
file_size = 65536

-- "a series buffer of 2,980"
abbrev pub series_size : ℕ
series_size = most_quarters

-- "treats Q > 8 as cause 4"
abbrev pub program_quarters : ℕ
program_quarters = 8

-- "4,096 values, 162 × Q book, 512 log rows", and schedules of 64 × Q: of a book and schedules for 8 quarter hours an opening is lent those of its Q,
-- and a log row has four numbers
abbrev pub lent : Lengths
lent = record { values = 4096; book = book_rows * program_quarters; log = 4 * 512; schedules = schedule_rows * program_quarters }

-- what the reader finds in a file
abbrev pub found_in : (file : List ℕ) → Found
found_in file = calls_in series_size file

-- what the plain desk is told of its calls
abbrev pub told_in : (file : List ℕ) → List Told
told_in file = tells lent [] (map given (given_in (found_in file).calls))

-- "It prints call number (from 1) and answer in decimal for each call"
unfoldable pub answers_text : (answers : List ℕ) → List ℕ
answers_text l = each_to (length l) (λ (n : ℕ). answer_line n (get_or l (n - 1) 0))

-- "`G run quarter group figure` for figures not 0"
unfoldable pub group_text : (run quarter group : ℕ) (figure : ℤ) → List ℕ
group_text r q g v = cond (eqb (nat_abs v) 0) [] (group_line r q g v)

-- ".. groups rising, and `T run quarter sum`"; the figures of a run and quarter hour by their groups
unfoldable pub quarter_text : (run quarter : ℕ) → (ℕ → ℤ) → List ℕ
quarter_text r q f = each_to groups (λ (g : ℕ). group_text r q g (f g)) ++ total_line r q (sum_to groups f)

-- "for each run and quarter"; the figures by run, quarter hour and group
unfoldable pub month_text : (quarters : ℕ) → (ℕ → ℕ → ℕ → ℤ) → List ℕ
month_text n f = each_to runs (λ (r : ℕ). each_to n (λ (q : ℕ). quarter_text r q (f r q)))

-- "Then, if open, ..": a desk that is not open has no quarter hours
unfoldable pub figures_text : List Told → List ℕ
figures_text h = month_text (opening_of h).quarters (λ (r q g : ℕ). figure h r (group_row g) (q - 1))

-- "`S run point version status` .. for points with a selection"
unfoldable pub selection_text : (run point : ℕ) → Selection → List ℕ
selection_text r p None = []
selection_text r p (Selected v) = selection_line r p v.version.0 (status_number v.status)

-- ".. runs rising, then points rising"; a desk that is not open has no versions
unfoldable pub selections_text : List VersionRecord → List ℕ
selections_text vs = each_to runs (λ (r : ℕ). each_to points (λ (p : ℕ). selection_text r p (selected r p vs)))

-- "After the T lines the desk program prints" them; "on a file refusal `F number offset` after the lines already printed, then nothing"
abbrev pub end_text : Ending → (offset : ℕ) → List Told → List ℕ
end_text whole at h = figures_text h ++ selections_text (versions_of h)
end_text (stopped x) at h = refusal_line (cause_number x) at

-- the output of a file
unfoldable pub text_of : (file : List ℕ) → List ℕ
text_of file =
    answers_text (numbers_of (plain_replies [] (told_in file)))
    ++ end_text (found_in file).ending (length file - length (found_in file).left) (plain_end [] (told_in file))

-- "The desk program reads the first 65,536 bytes of standard input as the file"
abbrev pub output_of : (input : List ℕ) → List ℕ
output_of input = text_of (take file_size input)
