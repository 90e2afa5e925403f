use Rattle.std.proofs.Common.{◌≡◌, take, Err, refl, subst, rules, arith}
use Rattle.casefile.specs.Desks.{stage_at}
use Rattle.casefile.specs.Reporting.{ReadsNext}
use Rattle.casefile.proofs.Chains.{no_progress, progress_read, progress_unwritten, progress_unread}
use Rattle.casefile.proofs.texts.serve_text.Goals as goal

pub lines-init : goal.lines-init
lines-init g c = record {
  same = search rules;
  reach = search rules;
  progress = rw (c.start-reading.ensures.start.0, c.start-reading.ensures.start.1) (no_progress _ _ _ _ _ _ _);
}

pub lines-preserved : goal.lines-preserved
lines-preserved g c =
    let read = rw (c.in-Ok-Some.field-0-is, c.lines.invariant.same.2) at c.in-Ok-Some.ensures.reads in record {
      same = search rules;
      reach = search rules;
      progress =
          progress_read _ _ _ _ _ _ _ _ _ _ _ _ _ _ _ _ c.lines.invariant.progress (omega arith) read.1.1 read.1.2 refl c.in_ok-write_line-in-Ok-Some.ensures;
    }

pub returns-in_err-write_line-in-Ok-Some-clause-serves : goal.returns-in_err-write_line-in-Ok-Some-clause-serves
returns-in_err-write_line-in-Ok-Some-clause-serves g c =
    let read = rw (c.in-Ok-Some.field-0-is, c.lines.invariant.same.2) at c.in-Ok-Some.ensures.reads in
    let line = take c.in-Ok-Some.end c.next.new.buffer in
    let failed : c.from_residual.result ≡ Err c.in_err-write_line-in-Ok-Some.field-0.0 = search rules in (
      c.next.new.self.position,
      c.next.new.self.lines,
      rw failed (progress_unwritten _ _ _ _ _ _ _ _ _ _ _ _ line _ c.lines.invariant.progress (omega arith) read.1.1 c.in_err-write_line-in-Ok-Some.ensures),
    )

pub returns-in-Err-clause-serves : goal.returns-in-Err-clause-serves
returns-in-Err-clause-serves g c =
    let l = c.lines in
    let unread = subst (λ p. ReadsNext (g.P.Picker.choice p) g.D.Decider.reach g.D.Decider.MARK c.args.text.now
    (stage_at l.reading.position l.reading.lines l.desk) (stage_at c.next.new.self.position c.next.new.self.lines c.next.new.desk)
    l.buffer c.next.new.buffer (Err c.in-Err.fault)) l.invariant.same.2 c.in-Err.ensures.reads in (
      c.next.new.self.position,
      c.next.new.self.lines,
      progress_unread _ _ _ _ _ _ _ _ _ _ _ _ c.next.new.buffer c.in-Err.fault c.report_fault.result c.lines.auto.buffer c.lines.invariant.progress unread
          c.report_fault.ensures,
    )
