-- The likelihood table (document 01, "What takes another shape"): 511 log-likelihoods as floats, entry d at index d + 255.
use Rattle.std.specs.Prelude.{ℕ, ◌+◌, ◌-◌, ◌<◌, Bool, true, ◌&&◌, List, [], ◌∷◌, ◌++◌, map, T, eqb, get_or, length, replicate, pos, Float}
use Rattle.std.specs.Float.{nan, fin, binary32}
use Rattle.std.specs.Float.Ieee.{of_bits, le}
use Rattle.floats.specs.Units.{nought, Between}

-- entry d of a table, for d = a − b
abbrev pub entry : List Float → ℕ → ℕ → Float
entry table a b = get_or table (a + 255 - b) nan

-- from −8 to 0
abbrev pub least_entry : Float
least_entry = fin true 1 (pos 3)

abbrev pub entry_in_range : Float → Bool
entry_in_range x = le least_entry x && le x nought

abbrev pub entries_in_range : List Float → Bool
entries_in_range [] = true
entries_in_range (x ∷ xs) = entry_in_range x && entries_in_range xs

-- Question 10: Has the table 511 entries, each from −8 to 0?
abbrev pub is_table : List Float → Bool
is_table table = eqb (length table) 511 && entries_in_range table

-- The table for slope 36 and floor −6, as bit patterns: −6 up to d = −43, −0.0 from d = 118 on.
unfoldable pub patterns : List ℕ
patterns =
    replicate 213 0xC0C00000
    ++ (0xC0BDD381 ∷ 0xC0B95249 ∷ 0xC0B4D18E ∷ 0xC0B05168 ∷ 0xC0ABD1E9 ∷ 0xC0A7532E ∷ 0xC0A2D550 ∷ 0xC09E5874 ∷
    0xC099DCBE ∷ 0xC095625C ∷ 0xC090E97F ∷ 0xC08C7260 ∷ 0xC087FD44 ∷ 0xC0838A73 ∷ 0xC07E348E ∷ 0xC0755A3F ∷
    0xC06C86DC ∷ 0xC063BB64 ∷ 0xC05AF8F9 ∷ 0xC05240E2 ∷ 0xC0499494 ∷ 0xC040F5B0 ∷ 0xC038660C ∷ 0xC02FE7B4 ∷
    0xC0277CF4 ∷ 0xC01F2853 ∷ 0xC016EC9F ∷ 0xC00ECCE8 ∷ 0xC006CC84 ∷ 0xBFFDDE1A ∷ 0xBFEE70B6 ∷ 0xBFDF58FE ∷
    0xBFD09F72 ∷ 0xBFC24CCE ∷ 0xBFB469EC ∷ 0xBFA6FF94 ∷ 0xBF9A164D ∷ 0xBF8DB620 ∷ 0xBF81E661 ∷ 0xBF6D5AE9 ∷
    0xBF58212C ∷ 0xBF44274D ∷ 0xBF317218 ∷ 0xBF200329 ∷ 0xBF0FD8E4 ∷ 0xBF00EE7C ∷ 0xBEE67861 ∷ 0xBECD6F14 ∷
    0xBEB6A77F ∷ 0xBEA20454 ∷ 0xBE8F656D ∷ 0xBE7D5159 ∷ 0xBE5F55E4 ∷ 0xBE4491B8 ∷ 0xBE2CBEDF ∷ 0xBE17996F ∷
    0xBE04E058 ∷ 0xBDE8AC01 ∷ 0xBDCB81C6 ∷ 0xBDB1D722 ∷ 0xBD9B4A10 ∷ 0xBD87810E ∷ 0xBD6C55A1 ∷ 0xBD4DFC8A ∷
    0xBD337351 ∷ 0xBD1C4496 ∷ 0xBD0807C9 ∷ 0xBCECC0B1 ∷ 0xBCCDF80C ∷ 0xBCB3251F ∷ 0xBC9BC7E7 ∷ 0xBC87704C ∷
    0xBC6B77C1 ∷ 0xBC4CA869 ∷ 0xBC31DB78 ∷ 0xBC1A8CCE ∷ 0xBC0648BD ∷ 0xBBE955D1 ∷ 0xBBCAB529 ∷ 0xBBB016A9 ∷
    0xBB98F577 ∷ 0xBB84DBF5 ∷ 0xBB66CBD7 ∷ 0xBB487570 ∷ 0xBB2E18C0 ∷ 0xBB173350 ∷ 0xBB03504D ∷ 0xBAE4152B ∷
    0xBAC611AB ∷ 0xBAAC0318 ∷ 0xBA955E34 ∷ 0xBA81B790 ∷ 0xBA614736 ∷ 0xBA43A54E ∷ 0xBA29E1E8 ∷ 0xBA13855F ∷
    0xBA0017FD ∷ 0xB9DE83E9 ∷ 0xB9C136E2 ∷ 0xB9A7C920 ∷ 0xB991AAD2 ∷ 0xB97CF830 ∷ 0xB95BBA1B ∷ 0xB93EBB8F ∷
    0xB9259CA7 ∷ 0xB90FDD79 ∷ 0xB8F9BC31 ∷ 0xB8D8FD20 ∷ 0xB8BC7DD5 ∷ 0xB8A37E5E ∷ 0xB88DFEC5 ∷ 0xB8767E25 ∷
    0xB855FE9A ∷ 0xB839FEF2 ∷ 0xB8217F34 ∷ 0xB80BFF67 ∷ 0xB7F3FF17 ∷ 0xB7D2FF52 ∷ 0xB7B7FF7C ∷ 0xB79EFF9D ∷
    0xB789FFB6 ∷ 0xB76FFF90 ∷ 0xB74FFFAC ∷ 0xB735FFBF ∷ 0xB71DFFCF ∷ 0xB707FFDC ∷ 0xB6EBFFCA ∷ 0xB6CFFFD6 ∷
    0xB6B3FFE0 ∷ 0xB69BFFE8 ∷ 0xB687FFEE ∷ 0xB667FFE6 ∷ 0xB647FFEC ∷ 0xB62FFFF1 ∷ 0xB617FFF5 ∷ 0xB607FFF7 ∷
    0xB5DFFFF4 ∷ 0xB5CFFFF5 ∷ 0xB5AFFFF8 ∷ 0xB58FFFFB ∷ 0xB57FFFF8 ∷ 0xB55FFFFA ∷ 0xB53FFFFC ∷ 0xB51FFFFD ∷
    0xB51FFFFD ∷ 0xB4FFFFFC ∷ 0xB4FFFFFC ∷ 0xB4BFFFFE ∷ 0xB4BFFFFE ∷ 0xB47FFFFE ∷ 0xB47FFFFE ∷ 0xB47FFFFE ∷
    0xB47FFFFE ∷ 0xB3FFFFFF ∷ 0xB3FFFFFF ∷ 0xB3FFFFFF ∷ 0xB3FFFFFF ∷ 0xB3FFFFFF ∷ 0xB3FFFFFF ∷ 0xB3FFFFFF ∷ [])
    ++ replicate 138 0x80000000

unfoldable pub built_in : List Float
built_in = map (of_bits binary32) patterns

-- each entry of a table that passes question 10 is from −8 to 0, and the built-in table passes
abbrev pub EntryRule : Type 0
EntryRule = (table : List Float) → T (is_table table) → (i : ℕ) → i < 511 → Between least_entry nought (get_or table i nan)

abbrev pub BuiltInRule : Type 0
BuiltInRule = T (is_table built_in)
