use Rattle.std.proofs.Common.{◌≡◌, true, false, refl}
use Rattle.deciders.proofs.Chains.{missing, found, look_on, falls_on}
use Rattle.deciders.proofs.listing.Listing.has.Goals as goal

pub returns-then-self-row : goal.returns-then-self-row
returns-then-self-row c =
    let s = c.args.self.now in
    found s.rows.now s.count c.args.entry s.fits s.index.now.start c.loop-row.number c.loop-row.invariant c.row-row.result (c.loop-row-test.ensures.0 refl) c.row-row.ensures
    c.if-self-row.true

pub returns : goal.returns
returns c =
    let s = c.args.self.now in
    missing s.rows.now s.count c.args.entry s.fits s.index.now.start c.loop-row.number c.loop-row.invariant
    (λ h. let q : false ≡ true = c.loop-row-test.ensures.1 h in cc)

pub loop-row-preserved : goal.loop-row-preserved
loop-row-preserved c =
    let s = c.args.self.now in
    rw c.next-number.ensures
    (look_on s.rows.now s.count c.args.entry s.fits s.index.now.start c.loop-row.number c.loop-row.invariant c.row-row.result (c.loop-row-test.ensures.0 refl) c.row-row.ensures
    s.index.now.heads s.index.now.links s.indexed c.if-self-row.false)

pub loop-row-smaller : goal.loop-row-smaller
loop-row-smaller c =
    let s = c.args.self.now in
    rw c.next-number.ensures
    (falls_on s.rows.now s.count c.args.entry s.fits s.index.now.start c.loop-row.number c.loop-row.invariant c.row-row.result (c.loop-row-test.ensures.0 refl) c.row-row.ensures
    s.index.now.heads s.index.now.links s.indexed)
