-- Which pairs a set has, and how many.
use Rattle.std.specs.Prelude.{ℕ, Bool, false, Vec, count_by, slice_index_or, unwrap_or}
use Rattle.std.specs.List.{slice_get, sum_by}
use Rattle.std.specs.Option.{option_map}
use Rattle.second.specs.declared.pairs.Pair.{Pair}
use Rattle.second.specs.declared.pairs.Pairs.{Pairs}

-- the flag at a place of a row; none stands past its end
abbrev pub flag : {Z : Type 0} → Vec Bool Z → ℕ → Bool
flag row q = slice_index_or row.items q false

-- the flags of a row that are up
abbrev pub count_row : {Z : Type 0} → Vec Bool Z → ℕ
count_row row = count_by (λ b. b) row.items

abbrev pub has_pair : Pairs → Pair → Bool
has_pair s p = unwrap_or (option_map (λ row. flag row p.right) (slice_get s.rows.items p.left)) false

abbrev pub pair_set_len : Pairs → ℕ
pair_set_len s = sum_by count_row s.rows.items
