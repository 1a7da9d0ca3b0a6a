-- What a refusal or the end leaves as it was, for every value: a lent list, a lent buffer, a reader; and what stands for a part or a
-- head that is not handed out. What a value leaves of a longer list. From document 01's sentences, by hand. Assumes nothing.
use mathlib.Core.Path.{◌≡◌, refl}
use mathlib.Core.List.{List, [], ◌++◌}
use Prim.Native.Nat.{ℕ}
use lib.IntN.{pos}
use lib.ListN.{replicate}
use Rattle.reasoning.specs.Answer.{value, refused, afterwards}
use Rattle.law.specs.Document.{TermValues, filled}
use Rattle.law.specs.Book.{faulty, book_end, stop, handed_part, handed_start, byte_after, least_then, unsound, no_year, part_of, part_start, HeadValues, head_read, terms_read}

abbrev no_head : HeadValues
no_head = record { head_n = pos 0; head_name = 0; head_mansion = 0 }

-- "Nothing is written on a refusal"; "a longer list keeps its later records"
pub record Lent : Type 0 where
  pub list_left : (number : ℕ) (list : List TermValues) → filled (refused number) list ≡ list
  pub list_later : (t u : TermValues) (later : List TermValues) → filled (value (replicate 24 t)) (replicate 24 u ++ later) ≡ replicate 24 t ++ later
  pub buffer_left : (number : ℕ) (buffer : List ℕ) → afterwards buffer (refused number) ≡ buffer
  pub list_refused : (number : ℕ) (b : List ℕ) → terms_read (refused number) b ≡ refused number
  pub list_faulty : (number at : ℕ) (b : List ℕ) → terms_read (value (faulty number at)) b ≡ refused number
  pub head_refused : (number : ℕ) (b : List ℕ) → head_read (refused number) b ≡ no_head
  pub head_faulty : (number at : ℕ) (b : List ℕ) → head_read (value (faulty number at)) b ≡ no_head

pub lent : Lent
lent =
    record {
      list_left = λ (number : ℕ) (list : List TermValues). refl;
      list_later = λ (t u : TermValues) (later : List TermValues). refl;
      buffer_left = λ (number : ℕ) (buffer : List ℕ). refl;
      list_refused = λ (number : ℕ) (b : List ℕ). refl;
      list_faulty = λ (number at : ℕ) (b : List ℕ). refl;
      head_refused = λ (number : ℕ) (b : List ℕ). refl;
      head_faulty = λ (number at : ℕ) (b : List ℕ). refl;
    }

-- "It then stays at that end or refusal"; "Where no year is handed out, the part is empty", at the book's start
pub record Stays : Type 0 where
  pub byte_end : (at : ℕ) → byte_after at book_end ≡ at
  pub byte_stop : (at number p : ℕ) → byte_after at (stop number p) ≡ at
  pub least_end : (least : ℕ) → least_then least book_end ≡ least
  pub least_stop : (least number p : ℕ) → least_then least (stop number p) ≡ least
  pub part_end_lem : (s : List ℕ) (at : ℕ) → handed_part s at book_end ≡ []
  pub part_stop : (s : List ℕ) (at number p : ℕ) → handed_part s at (stop number p) ≡ []
  pub start_end : (at : ℕ) → handed_start at book_end ≡ 0
  pub start_stop : (at number p : ℕ) → handed_start at (stop number p) ≡ 0
  pub sought_unsound : (s : List ℕ) (number p : ℕ) → (part_of s (unsound number p) ≡ []) × (part_start (unsound number p) ≡ 0)
  pub sought_none : (s : List ℕ) (number : ℕ) → (part_of s (no_year number) ≡ []) × (part_start (no_year number) ≡ 0)

pub stays : Stays
stays =
    record {
      byte_end = λ (at : ℕ). refl;
      byte_stop = λ (at number p : ℕ). refl;
      least_end = λ (least : ℕ). refl;
      least_stop = λ (least number p : ℕ). refl;
      part_end_lem = λ (s : List ℕ) (at : ℕ). refl;
      part_stop = λ (s : List ℕ) (at number p : ℕ). refl;
      start_end = λ (at : ℕ). refl;
      start_stop = λ (at number p : ℕ). refl;
      sought_unsound = λ (s : List ℕ) (number p : ℕ). (refl, refl);
      sought_none = λ (s : List ℕ) (number : ℕ). (refl, refl);
    }
