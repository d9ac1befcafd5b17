-- What a short list stands for.
use Rattle.std.specs.Prelude.{ℕ, List, take}
use Rattle.lists.specs.declared.short_list.ShortList.{ShortList}

-- its items
abbrev pub listed : {T : Type 0} {N : ℕ} → ShortList T N → List T
listed l = take l.count l.items
