-- The two calls between a year's bytes and its values return to each other: what one has written the other reads, and what one has
-- read the other writes, the same bytes. Assumes nothing.
use mathlib.Core.List.{List, ◌∷◌, ◌++◌, map, map-id}
use mathlib.Core.Path.{◌≡◌, refl, sym, ap, ◌∙◌}
use Prim.Native.Nat.{ℕ, zero, suc, ◌≤◌, ◌<◌}
use native.Mathlib.Omega.{arith}
use lib.IntN.{ℤ, pos}
use lib.ListN.{length, get_or, take, drop, get_or-map}
use Rattle.reasoning.specs.Answer.{Answer, value}
use Rattle.law.specs.Document.{TermValues}
use Rattle.law.specs.Book.{Checked, sound, HeadValues, year_from, terms_in, values_in, head_read, terms_read, write_answer}
use Rattle.reasoning.specs.InOrder.{in_order}
use Rattle.reasoning.proofs.InOrder.{in_order_length, in_order_same, filled_all}
use Rattle.values.proofs.ReadForRoom.{terms_many, read_as}
use Rattle.values.proofs.WrittenIsRead.{uncounted}
use Rattle.values.proofs.ReadIsWritten.{Bytes}
use Rattle.values.proofs.ReturnTrips as by_value
use Rattle.bhromilun.specs.Columns.{days_of, minutes_of, term_given, terms_given}
use Rattle.bhromilun.specs.Books.{year_given}

-- ---- terms and their columns

abbrev nothing : TermValues
nothing = record { day_of_term = pos 0; minute_of_term = 0; count_of_term = 0 }

map_in_order : {A B : Type 0} (f : A → B) (g : ℕ → A) (n : ℕ) → map f (in_order g n) ≡ in_order (λ (k : ℕ). f (g k)) n
unfolding in_order
map_in_order f g zero = refl
map_in_order {B = B} f g (suc n) = ap (λ (l : List B). f (g 0) ∷ l) (map_in_order f (λ (k : ℕ). g (suc k)) n)

-- a list is what stands at its places, in order
in_order_all : {A : Type 0} (d : A) (xs : List A) (n : ℕ) → length xs ≡ n → in_order (λ (k : ℕ). get_or xs k d) n ≡ xs
in_order_all d xs n e = sym (filled_all (λ x. x) (λ (k : ℕ). get_or xs k d) d xs n e (record { at = λ i h. refl })) ∙ map-id xs

-- a column of the terms given, their counts aside
column_back : {A : Type 0} (f : TermValues → A) (days : List ℤ) (minutes : List ℕ)
    → map f (map uncounted (terms_given days minutes)) ≡ in_order (λ (k : ℕ). f (term_given days minutes k)) 24
column_back f days minutes =
    ap (map f) (map_in_order uncounted (term_given days minutes) 24) ∙ map_in_order f (λ (k : ℕ). uncounted (term_given days minutes k)) 24

same_term : (d : ℤ) (m : ℕ) (t : TermValues) → d ≡ t.day_of_term → m ≡ t.minute_of_term → t.count_of_term ≡ 0
    → record { day_of_term = d; minute_of_term = m; count_of_term = 0 } ≡ t
same_term d m t p q r = rw (p, q, ← r) refl

-- terms without counts are those of their columns
columns_back : (ts : List TermValues) → length ts ≡ 24 → ((k : ℕ) → (get_or ts k nothing).count_of_term ≡ 0) → terms_given (days_of ts) (minutes_of ts) ≡ ts
columns_back ts long none =
    in_order_same (term_given (days_of ts) (minutes_of ts)) (λ (k : ℕ). get_or ts k nothing) 24
    (λ (k : ℕ) (h : k < 24).
    same_term _ _ (get_or ts k nothing) (get_or-map (λ (t : TermValues). t.day_of_term) ts k nothing) (get_or-map (λ (t : TermValues). t.minute_of_term) ts k nothing) (none k))
    ∙ in_order_all nothing ts 24 long

counts_none : (n k : ℕ) (b : List ℕ) → (get_or (terms_in n b) k nothing).count_of_term ≡ 0
unfolding terms_in
counts_none zero k b = refl
counts_none (suc n) zero b = refl
counts_none (suc n) (suc k) b = counts_none n k (drop 6 b)

-- ---- what is written is read

-- the bytes c read as these values, and the year ends at byte 149
pub record ReadsBack (n : ℤ) (name mansion : ℕ) (days : List ℤ) (minutes : List ℕ) (c : List ℕ) : Type 0 where
  pub answers : year_from 0 0 c ≡ sound 149
  pub number : (values_in c).year_n ≡ n
  pub day_name : (values_in c).year_name ≡ name
  pub duty_mansion : (values_in c).year_mansion ≡ mansion
  pub term_days : days_of (values_in c).year_terms ≡ days
  pub term_minutes : minutes_of (values_in c).year_terms ≡ minutes

-- b is the buffer before, c afterwards
pub written_is_read : (n : ℤ) (name mansion : ℕ) (days : List ℤ) (minutes : List ℕ) → length days ≡ 24 → length minutes ≡ 24
    → (b c : List ℕ) → write_answer (year_given n name mansion days minutes) b ≡ value c → ReadsBack n name mansion days minutes c
written_is_read n name mansion days minutes l m b c w =
    let r = by_value.written_is_read (year_given n name mansion days minutes) b c (omega (arith, in_order_length (term_given days minutes) 24)) w 24 (omega arith) in
    let says = sym r.says in
    let head = ap (λ (a : Answer Checked). head_read a c) says ∙ r.head in
    let told : value (values_in c).year_terms ≡ value (map uncounted (terms_given days minutes)) = ap (λ (a : Answer Checked). terms_read a c) says ∙ r.terms in
    let terms : (values_in c).year_terms ≡ map uncounted (terms_given days minutes) = cc in
    let sound-all : value (year_from 0 0 c) ≡ value (sound 149) = sym (read_as c 24 (omega arith) refl) ∙ r.says in
    record {
      answers = cc;
      number = ap (λ (v : HeadValues). v.head_n) head;
      day_name = ap (λ (v : HeadValues). v.head_name) head;
      duty_mansion = ap (λ (v : HeadValues). v.head_mansion) head;
      term_days = ap days_of terms ∙ (column_back (λ t. t.day_of_term) days minutes ∙ in_order_all (pos 0) days 24 l);
      term_minutes = ap minutes_of terms ∙ (column_back (λ t. t.minute_of_term) days minutes ∙ in_order_all 0 minutes 24 m);
    }

-- ---- what is read is written

-- s is lent bytes that start with a year, b a buffer that has room
pub read_is_written : (s : List ℕ) → Bytes s → (e : ℕ) → year_from 0 0 s ≡ sound e → (b : List ℕ) → 149 ≤ length b
    → write_answer (year_given (values_in s).year_n (values_in s).year_name (values_in s).year_mansion (days_of (values_in s).year_terms) (minutes_of (values_in s).year_terms)) b
    ≡ value (take 149 s ++ drop 149 b)
unfolding values_in
read_is_written s h e q b l =
    let v = values_in s in
    ap (λ (ts : List TermValues). write_answer (record { year_n = v.year_n; year_name = v.year_name; year_mansion = v.year_mansion; year_terms = ts }) b)
    (columns_back v.year_terms (terms_many 24 _) (λ (k : ℕ). counts_none 24 k _))
    ∙ by_value.read_is_written s h e q b l
