-- A machine given on lists of bits, as a drawing gives it, is a linear machine on rows.
use Rattle.std.specs.Prelude.{◌≡◌, Bool, List, ℕ, ◌≤◌, length}
use Rattle.bits.specs.Rows.{Row, upto}
use Rattle.bits.specs.Lists.{row_of, list_of, plus_list}
use Rattle.machine.specs.Linear.{Linear, Superposes, Counted}

-- next takes a list of `size` cells and one of `channels` bits, out takes the list of the cells
pub record ListMachine : Type 0 where
  pub size : ℕ
  pub channels : ℕ
  pub outlets : ℕ
  pub next : List Bool → List Bool → List Bool
  pub out : List Bool → List Bool

-- what the lists have to keep, each said only of lists of the right lengths
pub record ListSuperposes (m : ListMachine) : Type 0 where
  pub next_length : (s j : List Bool) → length s ≡ m.size → length j ≡ m.channels → length (m.next s j) ≡ m.size
  pub out_length : (s : List Bool) → length s ≡ m.size → length (m.out s) ≡ m.outlets
  pub next_sum : (s t i j : List Bool) → length s ≡ m.size → length t ≡ m.size → length i ≡ m.channels → length j ≡ m.channels
      → m.next (plus_list s t) (plus_list i j) ≡ plus_list (m.next s i) (m.next t j)
  pub out_sum : (s t : List Bool) → length s ≡ m.size → length t ≡ m.size → m.out (plus_list s t) ≡ plus_list (m.out s) (m.out t)

-- the same machine on rows: it looks at the first bits of each row
abbrev pub on_rows : ListMachine → Linear
on_rows m = record {
  size = m.size;
  channels = m.channels;
  outlets = m.outlets;
  next = λ s j. row_of (m.next (list_of m.size s) (list_of m.channels j));
  out = λ s. row_of (m.out (list_of m.size s));
}

-- it superposes, has its counts in range where the drawing has, keeps to its cells, and does on rows what the given one does on lists
pub record SameOnRows (m : ListMachine) : Type 0 where
  pub superposes : Superposes (on_rows m)
  pub counted : 1 ≤ m.channels → m.channels ≤ 64 → 1 ≤ m.outlets → m.outlets ≤ 64 → Counted (on_rows m)
  pub within : (s j : Row) → upto m.size ((on_rows m).next s j) ≡ (on_rows m).next s j
  pub same_next : (s j : List Bool) → length s ≡ m.size → length j ≡ m.channels → (on_rows m).next (row_of s) (row_of j) ≡ row_of (m.next s j)
  pub same_out : (s : List Bool) → length s ≡ m.size → (on_rows m).out (row_of s) ≡ row_of (m.out s)

abbrev pub ListsAreLinear : Type 0
ListsAreLinear = (m : ListMachine) → ListSuperposes m → SameOnRows m
