-- The sentences of refusals.
use Rattle.std.specs.Prelude.{ℕ, cond, List, [], ◌∷◌, ◌++◌, eqb}
use Prim.Native.String.{String}
use Rattle.model.specs.Refusals.{Answer, fine, refused}
use Rattle.pages.specs.Letters.{letters}
use Rattle.sentences.specs.Spelled.{spelled}

-- what is said of each number, from 1 on; of 15 more is said below
abbrev pub reasons : List String
reasons =
    "the trace is shorter than 12 bytes"
    ∷ "the trace's mark or version is wrong"
    ∷ "the trace has more than 64 slots"
    ∷ "the trace has more than 1,024 requests"
    ∷ "the fill price is above 1,000,000"
    ∷ "the trace's length is not 12 + 8n"
    ∷ "request @ is neither read nor write, or its fourth byte is not 0"
    ∷ "the cost of request @ is above 1,000,000"
    ∷ "the plan is shorter than 16 bytes"
    ∷ "the plan's mark, version or zero byte is wrong"
    ∷ "the plan's number of requests is not the trace's"
    ∷ "the plan's length is not 16 + 5n"
    ∷ "the flag of request @ is neither 0 nor 1"
    ∷ "flag 1 at request @, its item's last, or a write of an item not held"
    ∷ ""
    ∷ "the stated cost is not the replayed cost"
    ∷ "the rent of gap @ is above 2,000,000"
    ∷ "the floor is not equal to the cost"
    ∷ "the lent buffer is shorter than 16 + 5n"
    ∷ "the least or the measured cost is above 2,048,000,000"
    ∷ "the measured cost is below the least"
    ∷ []

-- words to choose from, a bar before each
abbrev pub barred : List String → List ℕ
barred [] = []
barred (word ∷ words) = 124 ∷ (letters word ++ barred words)

-- one of the reasons
abbrev pub sentence : List ℕ
sentence = letters "refused @ at @: [" ++ (barred reasons ++ letters "]\n")

-- refusal 15: more items in a gap than there are slots
abbrev pub crowded_page : (gap slots : ℕ) → List ℕ
crowded_page gap slots =
    cond (eqb slots 1)
    (spelled (letters "refused 15 at @: more than 1 item in gap @\n") (gap ∷ gap ∷ []))
    (spelled (letters "refused 15 at @: more than @ items in gap @\n") (gap ∷ slots ∷ gap ∷ []))

-- `refused N at P: ` and the sentence for N; the slots are the trace's
unfoldable pub refusal_page : (number place slots : ℕ) → List ℕ
refusal_page number place slots =
    cond (eqb number 15) (crowded_page place slots) (spelled sentence (number ∷ place ∷ number ∷ place ∷ []))

-- an answer: the value's page, or the refusal's sentence
abbrev pub answer_page : {A : Type 0} → (slots : ℕ) → (page : A → List ℕ) → Answer A → List ℕ
answer_page slots page (fine a) = page a
answer_page slots page (refused number place) = refusal_page number place slots
