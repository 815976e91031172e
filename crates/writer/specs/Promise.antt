-- What `write` promises: the answer, and what the lent buffer then holds. Assumes nothing.
use Rattle.std.specs.Prelude.{◌≡◌, ℕ, List, Result, length}
use Rattle.model.specs.Refusals.{answered}
use Rattle.model.specs.declared.Refusal.{Refusal}
use Rattle.writer.specs.Write.{write_of, buffer_of}

-- of a trace, flags, rents and the buffer as it came in, the answer and the buffer as it goes out
pub record Wrote (trace flags rents buffer : List ℕ) (r : Result ℕ Refusal) (buffer' : List ℕ) : Type 0 where
  pub answer : answered r ≡ write_of trace flags rents (length buffer)
  pub held : buffer' ≡ buffer_of trace flags rents buffer
