-- A machine on lists that superposes is one on rows.
use mathlib.Core.Path.{◌≡◌, sym, ap, ap₂, ◌∙◌}
use mathlib.Core.Bool.{Bool}
use mathlib.Core.List.{List}
use lib.ListN.{length}
use Rattle.bits.specs.Rows.{Row, plus}
use Rattle.bits.specs.Lists.{row_of, list_of}
use Rattle.bits.proofs.Lists.{length_list_of, list_of_row_of, list_of_plus, row_of_plus, upto_row_of}
use Rattle.machine.specs.OnLists.{ListMachine, ListSuperposes, on_rows, ListsAreLinear}

module _ (m : ListMachine) (law : ListSuperposes m) where
  -- next of the lists that stand for two rows has as many bits as there are cells
  next_size : (s j : Row) → length (m.next (list_of m.size s) (list_of m.channels j)) ≡ m.size
  next_size s j = law.next_length _ _ (length_list_of m.size s) (length_list_of m.channels j)

  out_size : (s : Row) → length (m.out (list_of m.size s)) ≡ m.outlets
  out_size s = law.out_length _ (length_list_of m.size s)

  next_sum : (s t i j : Row) → (on_rows m).next (plus s t) (plus i j) ≡ plus ((on_rows m).next s i) ((on_rows m).next t j)
  next_sum s t i j =
      ap₂ (λ (x y : List Bool). row_of (m.next x y)) (list_of_plus m.size s t) (list_of_plus m.channels i j)
      ∙ ap row_of
      (law.next_sum _ _ _ _ (length_list_of m.size s) (length_list_of m.size t) (length_list_of m.channels i) (length_list_of m.channels j))
      ∙ row_of_plus _ _ (next_size s i ∙ sym (next_size t j))

  out_sum : (s t : Row) → (on_rows m).out (plus s t) ≡ plus ((on_rows m).out s) ((on_rows m).out t)
  out_sum s t =
      ap (λ (x : List Bool). row_of (m.out x)) (list_of_plus m.size s t)
      ∙ ap row_of (law.out_sum _ _ (length_list_of m.size s) (length_list_of m.size t))
      ∙ row_of_plus _ _ (out_size s ∙ sym (out_size t))

pub lists_are_linear : ListsAreLinear
lists_are_linear m law = record {
  superposes = record { next_sum = next_sum m law; out_sum = out_sum m law };
  counted = λ a b c d. record { channels_some = a; channels_few = b; outlets_some = c; outlets_few = d };
  within = λ s j. upto_row_of m.size _ (next_size m law s j);
  same_next = λ s j e f. ap₂ (λ (x y : List Bool). row_of (m.next x y)) (list_of_row_of m.size s e) (list_of_row_of m.channels j f);
  same_out = λ s e. ap (λ (x : List Bool). row_of (m.out x)) (list_of_row_of m.size s e);
}
