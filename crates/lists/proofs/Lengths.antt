-- How long a short list can be.
use Rattle.std.proofs.Common.{ℕ, ◌≤◌, length, arith}
use Rattle.std.proofs.lemmas.List.{length-take-le}
use Rattle.lists.specs.declared.short_list.ShortList.{ShortList}
use Rattle.lists.specs.Listed.{listed}

pub listed_few : {T : Type 0} {N : ℕ} (l : ShortList T N) → length (listed l) ≤ N
listed_few l = let e = length-take-le l.count l.items (let w = l.whole in let r = l.room in omega arith) in let r = l.room in omega arith
