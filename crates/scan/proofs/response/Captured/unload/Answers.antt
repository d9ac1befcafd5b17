use Rattle.std.proofs.Common.{◌≡◌, ◌+◌, ◌-◌, not, ◌&&◌, get_or, ap, ◌∙◌, rules}
use Rattle.bits.specs.Rows.{Row}
use Rattle.bits.specs.Words.{bit_of, word_of}
use Rattle.bits.proofs.Bitwise.{bits_without}
use Rattle.scan.proofs.response.Captured.unload.Goals as goal

pub returns : goal.returns
returns c =
    let u = c.args.self.now in
    let p = u.loaded.positions - (u.unloaded + 1) in
    let value = get_or c.args.values.now p 0 in
    let unknown = get_or c.args.unknowns.now p 0 in
    let known : c.low.result ≡ word_of u.loaded.chains (λ i. bit_of value i && not (bit_of unknown i)) =
    c.low.ensures ∙ ap (λ (s : Row). word_of u.loaded.chains s) (bits_without value unknown (c.type_inv.values p).fits (c.type_inv.unknowns p).fits) in
    search rules
