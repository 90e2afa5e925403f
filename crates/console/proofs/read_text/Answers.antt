use Rattle.std.proofs.Common.{ℕ, take, sym, ap, ◌∙◌}
use Rattle.console.proofs.Texts.{read_up_to}
use Rattle.console.proofs.read_text.Goals as goal

pub returns-clause-bytes : goal.returns-clause-bytes
returns-clause-bytes g c =
    let t = c.take in
    let new = c.read_to_end.new.buf.items in
    read_up_to g.R.Read.remaining c.args.input t.result.inner 16385 t.result.limit c.new-text.result.items new c.truncate.new.self.items
    t.ensures.limit t.ensures.inner c.new-text.ensures.items (c.truncate.ensures.items ∙ ap (λ (n : ℕ). take n new) (sym t.ensures.limit))
    c.in_ok-read_to_end.ensures.bytes
