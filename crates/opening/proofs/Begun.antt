-- What the calls of `begin` answer and lay, as its promise has it; and that the promise leaves no choice. Assumes nothing.
use mathlib.Core.Path.{◌≡◌, refl, sym, ◌∙◌, ap}
use Prim.Native.Nat.{ℕ}
use mathlib.Core.List.{List}
use native.Mathlib.Omega.{arith}
use lib.ListN.{replicate}
use Rattle.std.specs.Prelude.{Result, Ok, Err}
use Rattle.model.specs.Refusals.{Tried, passes, refusal, number_of, place_of}
use Rattle.model.specs.declared.Refusal.{Refusal}
use Rattle.model.proofs.Refusals.{answer_fine, answer_refused}
use Rattle.trace.specs.TraceFile.{requests_at, trace_tried}
use Rattle.trace.specs.Answers.{check_of, header_in}
use Rattle.trace.specs.declared.Header.{Header}
use Rattle.trace.proofs.Sound.{check_unique}
use Rattle.links.specs.Promise.{Filled}
use Rattle.ways.specs.Promise.{Sourced, Charged}
use Rattle.ways.proofs.Laws.{sourced_unique, charged_unique}
use Rattle.worths.specs.Worths.{Started}
use Rattle.worths.proofs.Unique.{started_unique}
use Rattle.opening.specs.Opened.{nexts_of, Opened}

-- one way through the rows is not the other
parted : {t : Tried} {number place : ℕ} → t ≡ passes → t ≡ refusal number place → ⊥
parted {t} {number} {place} a b = let e : passes ≡ refusal number place = sym a ∙ b in let z : ◌≡◌ {A = ℕ} 0 1 = cc in omega arith

-- a trace that is refused
pub begun_refused : {trace next prev next' prev' : List ℕ} (from charges worth : List ℕ) (r : Refusal) → Filled trace next prev (Err r) next' prev'
    → Opened trace from charges worth (Err r) from charges worth
begun_refused {trace} from charges worth r f =
    let k = answer_refused (trace_tried trace) (header_in trace) (number_of r) (place_of r) f.answer in
    record {
      answer = f.answer;
      sound = λ e. absurd (parted e k);
      refused = λ number place e. (refl, refl, refl);
    }

-- a sound one
pub begun_sound : {trace next prev from charges worth from' charges' worth' : List ℕ} (h : Header)
    → Filled trace (replicate 1024 0) (replicate 1024 0) (Ok h) next prev → Sourced h.requests next prev from from'
    → Charged trace charges charges' → Started trace next worth worth' → Opened trace from charges worth (Ok h) from' charges' worth'
begun_sound {trace} {next} {prev} {from} {charges} {worth} {from'} {charges'} {worth'} h f s c w =
    let k = answer_fine (trace_tried trace) (header_in trace) h f.answer in
    let n : h.requests ≡ requests_at trace = ap (λ (y : Header). y.requests) k.1 in
    record {
      answer = f.answer;
      sound = λ e. record {
        sources = rw (n, f.nexts, f.prevs) at s;
        charged = c;
        started = rw f.nexts at w;
      };
      refused = λ number place e. absurd (parted k.0 e);
    }

-- ---- any two answers that the promise permits coincide

module _ {trace from charges worth : List ℕ} {r r' : Result Header Refusal} {f c w f' c' w' : List ℕ} (a : Opened trace from charges worth r f c w) (b : Opened trace from charges worth r' f' c' w') where
  lists_unique : (t : Tried) → trace_tried trace ≡ t → (f ≡ f') × (c ≡ c') × (w ≡ w')
  lists_unique passes e =
      let p = a.sound e in
      let q = b.sound e in
      (sourced_unique p.sources q.sources, charged_unique p.charged q.charged, started_unique trace (nexts_of trace) worth w w' p.started q.started)
  lists_unique (refusal number place) e =
      let p = a.refused number place e in
      let q = b.refused number place e in
      (p.0 ∙ sym q.0, p.1 ∙ sym q.1, p.2 ∙ sym q.2)

  pub opened_unique : (r ≡ r') × (f ≡ f') × (c ≡ c') × (w ≡ w')
  opened_unique =
      let l = lists_unique (trace_tried trace) refl in
      (check_unique r r' (check_of trace) a.answer b.answer, l.0, l.1, l.2)
