use Rattle.std.proofs.Common.{◌≡◌, ℕ, ◌<◌, ◌≢◌, Bool, false, cond, List, [], ◌∷◌, ◌++◌, length, get_or, is_ok, sym, ◌∙◌, arith}
use Rattle.std.proofs.lemmas.Bool.Decides.{nat_tests}
use Rattle.std.proofs.lemmas.Grind.{common_steps}
use Rattle.std.proofs.lemmas.List.Folds.{list_any_at}
use Rattle.lists.specs.Listed.{listed}
use Rattle.registers.specs.declared.Link.{Link}
use Rattle.registers.specs.Rules.{no_link, same_link, is_linked}
use Rattle.registers.proofs.links.gather.LinksGathers.add.Goals as goal

-- pushed or not, a link that is not among others leaves none twice
once_pushed : (xs ys : List Link) (link : Link) (pushed : Bool) (j k : ℕ) → ys ≡ cond pushed (xs ++ (link ∷ [])) xs → is_linked xs link ≡ false
    → (k < length xs → get_or xs j no_link ≢ get_or xs k no_link) → j < k → k < length ys → get_or ys j no_link ≢ get_or ys k no_link
once_pushed xs ys link pushed j k e new once l h same = grind (arith, common_steps, nat_tests, list_any_at (λ l. same_link l link) xs j no_link)

pub invariant_of-self-clause-once : goal.invariant_of-self-clause-once
invariant_of-self-clause-once c j k l h =
    let t = c.args.self.now in
    once_pushed (listed t.links) _ c.args.link (is_ok c.push.result) j k c.push.ensures.after (sym c.has.ensures ∙ c.if-has.false) (t.once j k l) l h
