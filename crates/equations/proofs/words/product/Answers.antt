use Rattle.std.proofs.Common.{rules, ◌≡◌, ℕ, ◌∙◌, ap, refl, arith, tests}
use Rattle.std.specs.List.{fold, zip}
use Rattle.std.proofs.lemmas.Iterator.{YieldsList-from_zip, YieldsList-from_slice}
use Rattle.std.proofs.lemmas.Iterator.Consumers.{fold_from_yields_List}
use Rattle.bits.specs.Words.{bit_of}
use Rattle.bits.specs.Rows.{sum_of}
use Rattle.equations.proofs.FourWords.{add_common, words_dot}
use Rattle.equations.proofs.words.product.Goals as goal

pub returns : goal.returns
returns c =
    let e : c.fold.result ≡ fold add_common 0 (zip c.args.a c.args.b) =
    fold_from_yields_List _ add_common 0 c.fold.result c.fold.ensures.ran
    (YieldsList-from_zip (YieldsList-from_slice c.args.a (cc)) (YieldsList-from_slice c.args.b (cc))) (λ a x b q k. search (rules, tests)) in
    c.parity.ensures ∙ ap (λ (w : ℕ). sum_of 64 (bit_of w)) e ∙ words_dot 64 refl c.args.a c.args.b (omega arith) (omega arith)
