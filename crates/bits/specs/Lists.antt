-- Lists of bits as rows, and the first bits of a row as a list.
use Rattle.std.specs.Prelude.{ℕ, zero, suc, Bool, false, List, [], ◌∷◌, slice_index_or}
use Rattle.bits.specs.Rows.{Row, xor}

-- the row that begins with the bits of a list and is false after them
abbrev pub row_of : List Bool → Row
row_of xs i = slice_index_or xs i false

-- the first n bits of a row
abbrev pub list_of : ℕ → Row → List Bool
list_of zero s = []
list_of (suc n) s = s zero ∷ list_of n (λ i. s (suc i))

-- the sum of two lists of one length, place by place
abbrev pub plus_list : List Bool → List Bool → List Bool
plus_list [] ys = []
plus_list (x ∷ xs) [] = []
plus_list (x ∷ xs) (y ∷ ys) = xor x y ∷ plus_list xs ys
