use Rattle.std.proofs.Common.{◌+◌, arith}
use Rattle.deciders.proofs.Chains.{index_none, zeros_below}
use Rattle.deciders.proofs.index.Index.clear.Goals as goal
use Rattle.deciders.proofs.index.Index.clear.Goals.{then-self, else-self}

pub returns : goal.returns
returns c =
    let s = c.args.self.now in
    elim c.if-self.branch [
      | then-self w ↦ rw w.self-is (index_none (0 + 4096) w.fill.new.self s.links
          (let e = w.fill.ensures.after (λ y same. same) in rw e (zeros_below _ (0 + 4096) (omega arith))))
      | else-self w ↦ rw w.self-is (index_none (s.start + 4096) s.heads s.links s.below)
    ]
