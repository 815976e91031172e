-- What the pen and the calls promise.
use Rattle.std.specs.Prelude.{◌≡◌, ℕ, ◌+◌, ◌≤◌, ◌<◌, List, ◌++◌, length, get_or, replicate}
use Rattle.pages.specs.Pages.{Page, write, Cut}
use Rattle.decimal.specs.Decimal.{decimal}
use Rattle.sentences.specs.Spelled.{State, Sign, spelled}
use Rattle.sentences.specs.declared.Pen.{Pen}

-- how far the pen has read signs
abbrev pub state_of : Pen → State
state_of p = record { taken = p.taken; run = p.run; over = p.over; hidden = p.hidden }

-- its counts can grow by one
pub record Small (s : State) : Type 0 where
  pub taken : s.taken < 18446744073709551615
  pub run : s.run < 18446744073709551615
  pub over : s.over ≤ 256

-- a number that ends a run, with k of one byte in front
abbrev pub led_of : State → (k lead n : ℕ) → Sign
led_of s k lead n =
    record {
      bytes = replicate k lead ++ decimal n;
      after = record { taken = s.taken + 1; run = 0; over = s.over; hidden = 0 };
    }

-- the sign's bytes are laid, and the pen stands behind it
pub record Signed (s : Sign) (old : Page) (r : Pen) (new : Page) : Type 0 where
  pub state : state_of r ≡ s.after
  pub page : new ≡ write old s.bytes

-- the page begins with what stands for the text, as far as it has room; besides, what the types say of page and numbers
pub record Laid (text numbers old : List ℕ) (r : ℕ) (new : List ℕ) : Type 0 where
  pub cut : Cut (spelled text numbers) old r new
  pub room : length old ≡ 256
  pub small : (i : ℕ) → get_or numbers i 0 < 18446744073709551616
