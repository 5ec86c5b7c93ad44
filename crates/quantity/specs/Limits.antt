-- The limits of document 01, "What the desk holds", each number in one place. A number from outside may be any; these say which are in range.
use Rattle.std.specs.Prelude.{ℕ, ◌+◌, ◌*◌, ◌^◌, Bool, ◌&&◌, ℤ, nat_le, nat_lt, unsigned_abs}

-- "Q from 1 to 2,980"
abbrev pub most_quarters : ℕ
most_quarters = 2980

-- "a point table of 256"
abbrev pub points : ℕ
points = 256

-- "a version table of 512"
abbrev pub versions : ℕ
versions = 512

-- "Areas 1 to 16"
abbrev pub areas : ℕ
areas = 16

-- "Balance groups 1 to 64"
abbrev pub groups : ℕ
groups = 64

-- "Delta groups: one for the transmission operator (T), one for each area."
abbrev pub deltas : ℕ
deltas = 1 + areas

-- "runs 1 or 2"
abbrev pub runs : ℕ
runs = 2

-- "Rows 0..63 are groups 1..64, row 64 delta T, rows 65..80 areas 1..16.": 81 rows for each run
abbrev pub run_rows : ℕ
run_rows = groups + deltas

-- "book (162 × Q)"
abbrev pub book_rows : ℕ
book_rows = runs * run_rows

-- document 02: "a store of 64 × Q numbers", a schedule for each group
abbrev pub schedule_rows : ℕ
schedule_rows = groups

-- "Energies are signed whole watt-hours, each from -10^12 to 10^12."
abbrev pub most_energy : ℕ
most_energy = 10 ^ 12

-- "Day: working-day number 0 to 400"
abbrev pub last_day : ℕ
last_day = 400

-- from low to high, both included
abbrev pub within : (low high n : ℕ) → Bool
within low high n = nat_le low n && nat_le n high

-- "Quarter hours 1 to Q, Q from 1 to 2,980."
abbrev pub quarters_ok : (quarters : ℕ) → Bool
quarters_ok q = within 1 most_quarters q

-- a day: "working-day number 0 to 400, counted from the end of the month"
abbrev pub day_ok : (day : ℕ) → Bool
day_ok d = nat_le d last_day

-- "Deadlines F (first delivery), C (clearing), K (correction), with 1 ≤ F < C < K ≤ 399."
abbrev pub deadlines_ok : (first clearing correction : ℕ) → Bool
deadlines_ok f c k = nat_le 1 f && (nat_lt f c && (nat_lt c k && nat_le k 399))

-- "Version: 1 to 99,999,999,999,999."
abbrev pub version_ok : (version : ℕ) → Bool
version_ok v = within 1 99999999999999 v

-- "Points are 1 to 256"
abbrev pub point_ok : (point : ℕ) → Bool
point_ok p = within 1 points p

-- "Areas 1 to 16; 0 means the outside."
abbrev pub area_ok : (area : ℕ) → Bool
area_ok a = within 1 areas a

-- a delta: "area (0 for T)"
abbrev pub delta_ok : (area : ℕ) → Bool
delta_ok a = nat_le a areas

-- "Balance groups 1 to 64."
abbrev pub group_ok : (group : ℕ) → Bool
group_ok g = within 1 groups g

-- "runs 1 or 2"
abbrev pub run_ok : (run : ℕ) → Bool
run_ok r = within 1 runs r

-- "each from -10^12 to 10^12"
abbrev pub energy_ok : (energy : ℤ) → Bool
energy_ok e = nat_le (unsigned_abs e) most_energy
