-- Every answer has a report line that fits the buffer, and reading goes on.
use Rattle.std.proofs.Common.{◌≡◌, ℕ, ◌≤◌, List, length, Some, None, Ok, Err, Option, Result, sym, refl, ap, subst, arith}
use Rattle.std.proofs.lemmas.List.{length-take-le}
use Rattle.rules.specs.declared.refusal.Refusal.{Refusal}
use Rattle.rules.specs.Planning.{Task}
use Rattle.rules.specs.Refusals.{first_refusal}
use Rattle.deciders.specs.Sizes.{size_refusal}
use Rattle.deciders.specs.declared.row.Row.{Row}
use Rattle.waivers.specs.declared.fault.FinderFault.{FinderFault}
use Rattle.waivers.specs.declared.good_set.GoodSet.{GoodSet}
use Rattle.waivers.specs.Searching.{Choice, Ended}
use Rattle.frames.specs.declared.frame.Frame.{Frame}
use Rattle.frames.specs.declared.report.Added.{Added}
use Rattle.frames.specs.declared.report.Added.TheVariants.{Set, SetAndMark}
use Rattle.frames.specs.Reports.{added_bytes, Printed}
use Rattle.frames.proofs.ReportLines.{length_line}
use Rattle.cases.specs.State.{State}
use Rattle.cases.specs.Calls.{Finding, FindAnswer}
use Rattle.cases.specs.Refusing.{case_refusal, of_case, of_size, call_refusal}
use Rattle.cases.specs.Finding.{answer_of, FindsUnless}
use Rattle.cases.proofs.Refused.{both_made}
use Rattle.casefile.specs.declared.request.Request.{Request}
use Rattle.casefile.specs.declared.request.Request.TheVariants.{Open, Change, Find, DrawAndSign}
use Rattle.casefile.specs.declared.fault.LineFault.{LineFault}
use Rattle.casefile.specs.declared.serving.Reply.{Reply}
use Rattle.casefile.specs.declared.serving.Reply.TheVariants.{Done, Found}
use Rattle.casefile.specs.Faults.{report_of}
use Rattle.casefile.specs.Serving.{request_of, reply_to_call, reply_to_find, RepliesToCall, Replies, Serves}
use Rattle.casefile.specs.Reporting.{reply_bytes, Fits}

-- ---- the plan of an answer lies in the book

fits_reply_to_call : (a : Result Unit Refusal) (b : List ℕ) → Fits (reply_to_call a) b
fits_reply_to_call (Ok u) b = tt
fits_reply_to_call (Err e) b = tt

-- a plan is shorter than the sheet has rows, and the book has a place for each row
sizes_fit : (o : Result Unit Refusal) (rows places : ℕ) → first_refusal (of_case o) (of_size (size_refusal rows places)) ≡ Ok tt
    → (rows ≤ 4096) × (rows ≤ places)
sizes_fit o rows places made = let sizes = (both_made (of_case o) (of_size (size_refusal rows places)) made).1 in (grind arith, grind arith)

module _ (c : Choice) (R : ℕ → Type 0) (m : ℕ) (k k' : State) (s s' : List Row) (b b' : List ℕ) where
  fits_found : (f : Result GoodSet FinderFault) (p : Task) (gs : List ℕ) → Ended c R m (length s) p gs f b' → (length s ≤ 4096) × (length s ≤ length b')
      → Fits (reply_to_find (answer_of f)) b'
  fits_found (Ok f) p gs e (few, room) = (omega (arith, e.fits), omega (arith, e.fits))
  fits_found (Err e) p gs ended sizes = tt

  fits_reply_to_find : (a : Result (ℕ × ℕ × ℕ) FinderFault) (o : Result Unit FinderFault) → call_refusal k.plain (Finding s b) ≡ o
      → FindsUnless o c R m k s b (record { result = a; sheet = s'; book = b' }) k' → Fits (reply_to_find a) b'
  fits_reply_to_find a (Err e) q (is, same) = subst (λ (r : Result (ℕ × ℕ × ℕ) FinderFault). Fits (reply_to_find r) b') (sym (ap (λ (n : FindAnswer). n.result) is)) tt
  fits_reply_to_find a (Ok u) q h =
      let sizes = sizes_fit (case_refusal k.plain (Finding s b)) (length s) (length b) q in
      subst (λ (r : Result (ℕ × ℕ × ℕ) FinderFault). Fits (reply_to_find r) b') (sym h.answer)
      (fits_found h.found k.plain.task k'.groups h.searches.ended (sizes.0, omega (arith, sizes.1, h.book)))

  fits_replies_to_call : (C : Result Unit Refusal → State → Type 0) (r : Result Reply LineFault) → RepliesToCall C r k' s b s' b' → Fits r b'
  fits_replies_to_call C r h = rw h.reply (fits_reply_to_call h.answer b')

  fits_answered : (q : Request) (r : Result Reply LineFault) → Replies c R m q k r k' s b s' b' → Fits r b'
  fits_answered (Open number n standing order) r h = fits_replies_to_call _ r h
  fits_answered (Change x) r h = fits_replies_to_call _ r h
  fits_answered Find r h = rw h.reply (fits_reply_to_find h.answer (call_refusal k.plain (Finding s b)) refl h.finds)
  fits_answered DrawAndSign r h = fits_replies_to_call _ r h

  pub fits_served : (f : Frame) (r : Result Reply LineFault) → Serves c R m f k r k' s b s' b' → Fits r b'
  fits_served f r h = fits_answered (request_of f) r h

-- ---- a report line has at most 8,209 bytes

short_added : (a : Option Added) → length (added_bytes a) ≤ 5
short_added None = omega arith
short_added (Some (Set x)) = omega arith
short_added (Some (SetAndMark x y)) = omega arith

pub short_reply : (kind line : ℕ) (r : Result Reply LineFault) (b : List ℕ) → Fits r b → length (reply_bytes kind line r b) ≤ 4104
short_reply kind line (Ok Done) b fits = omega arith
short_reply kind line (Ok (Found s count n)) b (le, few) = omega (arith, length-take-le n b le)
short_reply kind line (Err e) b fits = omega (arith, short_added (report_of e).added)

-- so the report buffer is never too short for one
pub always_room : (bytes before after : List ℕ) → length bytes ≤ 4104 → 8209 ≤ length before → Printed bytes before after None → ⊥
always_room bytes before after few room (lt, same) = omega (arith, length_line bytes)
