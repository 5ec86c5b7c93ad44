-- The example of document 01's section "Message file", as document 02 adds to it: bytes in, text out.
use Rattle.std.specs.Prelude.{ℕ, List, [], ◌∷◌, ◌++◌, replicate}

-- "`01 01 0A 1E 96 01 04 01 02`, fourteen `03`, `02 01 01 01 00 00`, `04 01 07 02 01 D0 0F` twice"
abbrev pub example_input : List ℕ
example_input =
    (0x01 ∷ 0x01 ∷ 0x0a ∷ 0x1e ∷ 0x96 ∷ 0x01 ∷ 0x04 ∷ 0x01 ∷ 0x02 ∷ [])
    ++ replicate 14 0x03
    ++ (0x02 ∷ 0x01 ∷ 0x01 ∷ 0x01 ∷ 0x00 ∷ 0x00 ∷ [])
    ++ (0x04 ∷ 0x01 ∷ 0x07 ∷ 0x02 ∷ 0x01 ∷ 0xd0 ∷ 0x0f ∷ [])
    ++ (0x04 ∷ 0x01 ∷ 0x07 ∷ 0x02 ∷ 0x01 ∷ 0xd0 ∷ 0x0f ∷ [])

-- its output: "1 0", "2 0", "3 0", "4 14", "G 1 1 1 1000", "T 1 1 1000", "G 2 1 1 1000", "T 2 1 1000", and "The case in document 01 gains
-- `S 1 1 7 2` and `S 2 1 7 2`", each with the line's end
abbrev pub example_output : List ℕ
example_output =
    (49 ∷ 32 ∷ 48 ∷ 10 ∷ [])
    ++ (50 ∷ 32 ∷ 48 ∷ 10 ∷ [])
    ++ (51 ∷ 32 ∷ 48 ∷ 10 ∷ [])
    ++ (52 ∷ 32 ∷ 49 ∷ 52 ∷ 10 ∷ [])
    ++ (71 ∷ 32 ∷ 49 ∷ 32 ∷ 49 ∷ 32 ∷ 49 ∷ 32 ∷ 49 ∷ 48 ∷ 48 ∷ 48 ∷ 10 ∷ [])
    ++ (84 ∷ 32 ∷ 49 ∷ 32 ∷ 49 ∷ 32 ∷ 49 ∷ 48 ∷ 48 ∷ 48 ∷ 10 ∷ [])
    ++ (71 ∷ 32 ∷ 50 ∷ 32 ∷ 49 ∷ 32 ∷ 49 ∷ 32 ∷ 49 ∷ 48 ∷ 48 ∷ 48 ∷ 10 ∷ [])
    ++ (84 ∷ 32 ∷ 50 ∷ 32 ∷ 49 ∷ 32 ∷ 49 ∷ 48 ∷ 48 ∷ 48 ∷ 10 ∷ [])
    ++ (83 ∷ 32 ∷ 49 ∷ 32 ∷ 49 ∷ 32 ∷ 55 ∷ 32 ∷ 50 ∷ 10 ∷ [])
    ++ (83 ∷ 32 ∷ 50 ∷ 32 ∷ 49 ∷ 32 ∷ 55 ∷ 32 ∷ 50 ∷ 10 ∷ [])
