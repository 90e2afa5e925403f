use Rattle.std.proofs.Common.{sym, refl, ap, ◌∙◌, arith}
use Rattle.std.proofs.lemmas.Bool.{false≢true}
use Rattle.std.proofs.lemmas.Result.{err_from_is_err_and}
use Rattle.deciders.specs.declared.struck.Action.{Action}
use Rattle.deciders.proofs.Sheets.{action_at, going_none, going_seen, going_full, going_goal, going_more}
use Rattle.deciders.proofs.listing.Listing.expand.Goals as goal
use Rattle.deciders.proofs.listing.Listing.expand.Goals.{in-Some+then-not-has+in_ok-row+else-is_goal, in-Some+else-not-has, in_default}

pub returns-in_err-row-clause-expands : goal.returns-in_err-row-clause-expands
returns-in_err-row-clause-expands g c =
    let p = err_from_is_err_and c.from_residual.result c.from_residual.ensures.1 in
    let items = c.as_slice-action-items.ensures.value in
    let here = rw items at c.loop-action-test.true in
    let item = action_at _ c.loop-action.action-index c.action-item.result (rw items at c.action-item.is) here in
    let made = rw item at c.in-Some.ensures in
    rw (p.1, c.in_err-row.ensures.same) (going_full c.loop-action.invariant.going here c.in-Some.made (sym made) (sym c.if-not-has.ensures) c.in_err-row.ensures.full p.0)

pub returns-then-is_goal-clause-expands : goal.returns-then-is_goal-clause-expands
returns-then-is_goal-clause-expands g c =
    let items = c.as_slice-action-items.ensures.value in
    let here = rw items at c.loop-action-test.true in
    let item = action_at _ c.loop-action.action-index c.action-item.result (rw items at c.action-item.is) here in
    let made = rw item at c.in-Some.ensures in
    let at_place = ap (λ (a : Action). a.place) (sym item) in
    let n = c.in_ok-row.ensures.number in
    rw (c.in_ok-row.ensures.rows, c.in_ok-row.ensures.count, n.0)
    (going_goal c.loop-action.invariant.going here c.in-Some.made (sym made) (sym c.if-not-has.ensures) _ at_place (omega (arith, n)) (c.if-is_goal.ensures.0 refl))

pub loop-action-preserved : goal.loop-action-preserved
loop-action-preserved g c =
    let x = c.loop-action.invariant in
    let items = c.as_slice-action-items.ensures.value in
    let here = rw items at c.loop-action-test.true in
    let item = action_at _ c.loop-action.action-index c.action-item.result (rw items at c.action-item.is) here in
    let at_place = ap (λ (a : Action). a.place) (sym item) in
    elim c.match-successor.branch [
      | in-Some+then-not-has+in_ok-row+else-is_goal w ↦
          (let made = rw item at w.in-Some.ensures in
          let n = w.in_ok-row.ensures.number in
          rw (w.self-is, w.in_ok-row.ensures.rows, w.in_ok-row.ensures.count, n.0) (record {
            going = going_more x.going here w.in-Some.made (sym made) (sym w.if-not-has.ensures) _ at_place (omega (arith, n)) (λ j. false≢true (w.if-is_goal.ensures.1 j));
            loan = w.in_ok-row.ensures.loan ∙ x.loan;
          }))
      | in-Some+else-not-has w ↦
          (let made = rw item at w.in-Some.ensures in
          rw w.self-is (record { going = going_seen x.going here w.in-Some.made (sym made) (sym w.if-not-has.ensures); loan = x.loan }))
      | in_default w ↦ (let none = rw item at w.in_default.ensures in rw w.self-is (record { going = going_none x.going here (sym none); loan = x.loan }))
    ]
