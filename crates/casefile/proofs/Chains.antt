-- LinesRead of a text's lines, one after another.
use Rattle.std.proofs.Common.{◌≡◌, ℕ, ◌-◌, ◌<◌, ◌≤◌, ◌⊎◌, inl, inr, List, [], ◌++◌, length, take, drop, Some, None, Ok, Err, Option, Result, refl, ap, ◌∙◌, subst, arith}
use Rattle.std.proofs.Math.Seq.{take-append_seam}
use Rattle.std.specs.Io.KnownBytes.{Keeps, Appends}
use Rattle.std.proofs.KnownBytes.{Appends-nil, Appends-trans, Keeps-refl, Keeps-trans}
use Rattle.rules.specs.Planning.{Task}
use Rattle.waivers.specs.Searching.{Choice}
use Rattle.frames.specs.Reports.{report_line, Printed}
use Rattle.frames.specs.Texts.{LineAt}
use Rattle.casefile.specs.declared.fault.ReadFault.{ReadFault}
use Rattle.casefile.specs.declared.fault.ReadFault.TheVariants.{TextTooLong, BufferTooShort}
use Rattle.casefile.specs.declared.fault.ServeFault.{ServeFault}
use Rattle.casefile.specs.declared.fault.ServeFault.TheVariants as serve_fault
use Rattle.casefile.specs.Faults.{too_long_bytes, report_length}
use Rattle.casefile.specs.Reporting.{Stage, Read, ReadsNext}
use Rattle.casefile.specs.Chains.{LinesRead, none, more, Writes, Reports, ServesText}

-- a line takes a byte at least
pub line_goes_on : (text line : List ℕ) (p q : ℕ) → LineAt text p line q → length text - q < length text - p
line_goes_on text line p q (below, unbroken, inl (cut, to)) = omega arith
line_goes_on text line p q (below, unbroken, inr (cut, to)) = omega arith

-- the report line at the front of a buffer
pub printed_line : (bytes before after : List ℕ) (n : ℕ) → Printed bytes before after (Some n) → take n after ≡ report_line bytes
printed_line bytes before after n (long, room, put) = rw (long, put) (take-append_seam (report_line bytes) (drop n before))

Keeps-appends : (a b c : Option (List ℕ)) (bs : List ℕ) → Keeps a b → Appends b c bs → Appends a c bs
Keeps-appends None b c bs p q = tt
Keeps-appends (Some x) None c bs p q = absurd p
Keeps-appends (Some x) (Some y) None bs p q = absurd q
Keeps-appends (Some x) (Some y) (Some z) bs p q = q ∙ ap (λ (l : List ℕ). l ++ bs) p

module _ {D : Type 0} (c : Choice) (reach : D → Task → ℕ → ℕ → ℕ → Type 0) (m : ℕ) (text : List ℕ) (room : ℕ) where
  -- how far the lines of a text are read and reported: not at all, unless the buffer has room and the text is short
  pub record Progress (x y : Stage D) (out out' : Option (List ℕ)) : Type 0 where
    pub report : List ℕ
    pub reads : LinesRead c reach m text x y report
    pub writes : Appends out out' report
    pub begun : ((y ≡ x) × Keeps out out') ⊎ ((8209 ≤ room) × (length text ≤ 16384))

  pub no_progress : (x : Stage D) (out : Option (List ℕ)) → Progress x x out out
  no_progress x out = record { report = []; reads = none; writes = Appends-nil out; begun = inl (refl, Keeps-refl out) }

  pub progress_read
      : (x y z : Stage D) (out out' out'' : Option (List ℕ)) (bytes buf buf' written : List ℕ) (n : ℕ) → Progress x y out out'
      → 8209 ≤ room → Read c reach m text y z bytes → Printed bytes buf buf' (Some n) → written ≡ take n buf' → Appends out' out'' written
      → Progress x z out out''
  progress_read x y z out out' out'' bytes buf buf' written n p enough read printed all appends =
      let line = all ∙ printed_line bytes buf buf' n printed in record {
        report = p.report ++ report_line bytes;
        reads = more p.reads z bytes read;
        writes = Appends-trans out out' out'' p.report (report_line bytes) p.writes (subst (Appends out' out'') line appends);
        begun = inr (enough, read.short);
      }

  -- where the report line of a line can't be written
  pub progress_unwritten
      : (x y z : Stage D) (out out' out'' : Option (List ℕ)) (bytes written : List ℕ) (e : ServeFault) → Progress x y out out' → 8209 ≤ room
      → Read c reach m text y z bytes → Writes written out' out'' (Err e) → ServesText c reach m text room x z out out'' (Err e)
  progress_unwritten x y z out out' out'' bytes written (serve_fault.Unread e) p enough read writes = absurd writes
  progress_unwritten x y z out out' out'' bytes written (serve_fault.Output e) p enough read writes =
      (enough, (p.report ++ report_line bytes, more p.reads z bytes read))

  -- where no line is read
  pub progress_unread
      : (x y z : Stage D) (out out' out'' : Option (List ℕ)) (buf buf' : List ℕ) (e : ReadFault) (r : Result Unit ServeFault) → length buf ≡ room
      → Progress x y out out' → ReadsNext c reach m text y z buf buf' (Err e) → Reports e (take (report_length e) buf') out' out'' r
      → ServesText c reach m text room x z out out'' r
  progress_unread x y z out out' out'' buf buf' BufferTooShort r long p (few, same, kept) (is, keeps') =
      elim p.begun [
        | inl (at, keeps) ↦ rw is (omega arith, same ∙ at, Keeps-trans out out' out'' keeps keeps')
        | inr (enough, short) ↦ absurd (omega arith)
      ]
  progress_unread x y z out out' out'' buf buf' TextTooLong r long p (enough, many, same, printed) writes =
      elim p.begun [ inl (at, keeps) ↦ too_long r writes (same ∙ at) keeps | inr (roomy, short) ↦ absurd (omega arith) ]
    where
      line : take (report_length TextTooLong) buf' ≡ report_line too_long_bytes
      line = printed_line too_long_bytes buf buf' (report_length TextTooLong) printed

      too_long : (r : Result Unit ServeFault) → Writes (take (report_length TextTooLong) buf') out' out'' r → z ≡ x → Keeps out out'
          → ServesText c reach m text room x z out out'' r
      too_long (Ok u) w at keeps =
          (omega arith, (report_line too_long_bytes, inr (many, at, refl), Keeps-appends out out' out'' _ keeps (subst (Appends out' out'') line w)))
      too_long (Err (serve_fault.Unread e)) w at keeps = absurd w
      too_long (Err (serve_fault.Output e)) w at keeps = (omega arith, ([], rw at none))

  pub progress_ended
      : (x y z : Stage D) (out out' : Option (List ℕ)) (buf buf' : List ℕ) → length buf ≡ room → Progress x y out out'
      → ReadsNext c reach m text y z buf buf' (Ok None) → ServesText c reach m text room x z out out' (Ok tt)
  progress_ended x y z out out' buf buf' long p (enough, short, past, same, kept) =
      (omega arith, (p.report, inl (short, rw same p.reads, rw same past), p.writes))

  -- where the report of a text can't be flushed
  pub unflushed
      : (x y : Stage D) (out out' : Option (List ℕ)) → ServesText c reach m text room x y out out' (Ok tt)
      → (8209 ≤ room) × ((report : List ℕ) × LinesRead c reach m text x y report)
  unflushed x y out out' (enough, (report, inl (short, reads, past), writes)) = (enough, (report, reads))
  unflushed x y out out' (enough, (report, inr (many, same, line), writes)) = (enough, ([], rw same none))
