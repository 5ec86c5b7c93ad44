-- "When run 1's selection or run 2's own changes, the log gains a row: day, point, run, new version."
use Rattle.std.specs.Prelude.{ℕ, ◌+◌, ◌*◌, Bool, true, false, cond, not, ◌&&◌, List, [], ◌∷◌, ◌++◌, eqb, Option, Some, None}
use Rattle.book.specs.Row.{splice}
use Rattle.state.specs.Selection.{own, version_of}
use Rattle.state.specs.declared.Selection.{Selection}
use Rattle.state.specs.declared.Selection.TheVariants.{None, Selected}
use Rattle.state.specs.declared.VersionRecord.{VersionRecord}
use Rattle.state.specs.declared.VersionRow.{VersionRow}
use Rattle.model.specs.declared.LogRow.{LogRow}
use Rattle.model.specs.declared.Turn.{Turn}

-- the same row of the version table
abbrev pub same_row : VersionRow → VersionRow → Bool
same_row r s = eqb r.at s.at && eqb r.version.0 s.version.0

-- another version is selected than before: its index or its number is another; a restated status is no change
unfoldable pub differ : Selection → Selection → Bool
differ None None = false
differ None (Selected s) = true
differ (Selected r) None = true
differ (Selected r) (Selected s) = not (same_row r s)

-- run 1's selection and run 2's own for a point, before and after a change of the versions
abbrev pub turn_of : (before after : List VersionRecord) (point : ℕ) → Turn
turn_of vs ws p = record { old1 = own 1 p vs; new1 = own 1 p ws; old2 = own 2 p vs; new2 = own 2 p ws }

-- "day, point, run, new version"
abbrev pub log_row : (day point run : ℕ) → Selection → LogRow
log_row d p run s = record { day = record { 0 = d }; point = record { 0 = p }; run = run; version = record { 0 = version_of s } }

-- the row that a turn makes due
abbrev pub due_by : Turn → (point day : ℕ) → Option LogRow
due_by t p d =
    cond (differ t.old1 t.new1) (Some (log_row d p 1 t.new1)) (cond (differ t.old2 t.new2) (Some (log_row d p 2 t.new2)) None)

-- the row that a change of the versions of a point makes due
unfoldable pub due : (before after : List VersionRecord) (point day : ℕ) → Option LogRow
due vs ws p d = due_by (turn_of vs ws p) p d

-- the log rows with the one that is due at their end
abbrev pub add_row : Option LogRow → List LogRow → List LogRow
add_row None l = l
add_row (Some r) l = l ++ (r ∷ [])

-- a row as four numbers of the log
abbrev pub log_words : LogRow → List ℕ
log_words r = r.day.0 ∷ r.point.0 ∷ r.run ∷ r.version.0 ∷ []

-- the rows as they stand in the log
unfoldable pub log_numbers : List LogRow → List ℕ
log_numbers [] = []
log_numbers (r ∷ l) = log_words r ++ log_numbers l

-- the log with the row that is due after the rows used
abbrev pub logged : (used : ℕ) → Option LogRow → List ℕ → List ℕ
logged n None log = log
logged n (Some r) log = splice log (4 * n) 4 (log_words r)

-- the rows used then
abbrev pub used_after : Option LogRow → (used : ℕ) → ℕ
used_after None n = n
used_after (Some r) n = n + 1
