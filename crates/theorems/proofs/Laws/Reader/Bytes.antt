-- What a reader finds in the bytes of a result, and that they are made of it. Assumes nothing.
use Prim.Native.Nat.{ℕ, zero, suc, ◌+◌, ◌≤◌, ◌<◌}
use mathlib.Core.Path.{◌≡◌, refl, sym, ◌∙◌, ap, ap₂}
use mathlib.Core.Bool.{Bool, true, not, cond}
use mathlib.Core.List.{List, [], ◌∷◌, ◌++◌, map, append-nil, append_assoc}
use native.Mathlib.Decide.{dec_lt}
use native.Mathlib.Omega.{arith}
use borrow.Author.Tests.{eqb-true, eq-eqb, ne_eqb}
use lib.Dec.{eqb}
use lib.ListN.{length, take}
use lib.Seq.{take-append_seam}
use Rattle.lists.proofs.Laws.Range.{and_left, and_right, and_both}
use Rattle.lists.specs.Lists.{every, select, tab, joined}
use Rattle.session.specs.Record.{Record, records_of, byte_of, kind_of}
use Rattle.session.specs.Parts.{of_kind}
use Rattle.session.specs.Program.{Program}
use Rattle.session.specs.Value.{Value}
use Rattle.lists.proofs.Laws.Lists.{holds, fails, truth, select-all, select_none}
use Rattle.lists.proofs.Laws.Choice.{every_then, chosen_groups}
use Rattle.session.proofs.Laws.Whole.{whole, records_joined}
use Rattle.lists.proofs.Laws.Fill.{tab_more, tab_ext}
use Rattle.model.specs.History.{History}
use Rattle.model.specs.Result.{Result, object_record, history_record, reply_record, numbers_of, is_shown, objects_shown, levels_shown, histories_shown, reply_of, reply_shown, bytes_of, histories_at}
use Rattle.calls.specs.Reader.{SameRecords}
use Rattle.theorems.specs.Reader.{ComparedByRecords}
use Rattle.lists.specs.Placed.{written_over}

module _ {A : Type 0} (p : A → Bool) where
  -- tests of lists one after the other and choices from them
  every_append : (xs ys : List A) → every p xs ≡ true → every p ys ≡ true → every p (xs ++ ys) ≡ true
  unfolding every
  every_append [] ys e t = t
  every_append (x ∷ xs) ys e t =
      and_both (p x) (every p (xs ++ ys)) (and_left (p x) (every p xs) e) (every_append xs ys (and_right (p x) (every p xs) e) t)

  select-append : (xs ys : List A) → select p (xs ++ ys) ≡ select p xs ++ select p ys
  unfolding select
  select-append [] ys = refl
  select-append (x ∷ xs) ys = elim (truth (p x)) [
    | holds e ↦ rw e (ap (λ l. x ∷ l) (select-append xs ys))
    | fails e ↦ rw e (select-append xs ys)
  ]

  -- a test that each f x passes, or each element of each g x
  every_mapped : {B : Type 0} (f : B → A) → ((x : B) → p (f x) ≡ true) → (xs : List B) → every p (map f xs) ≡ true
  unfolding every
  every_mapped f h [] = refl
  every_mapped f h (x ∷ xs) = and_both (p (f x)) (every p (map f xs)) (h x) (every_mapped f h xs)

  every_groups : {B : Type 0} (g : B → List A) → ((x : B) → every p (g x) ≡ true) → (xs : List B) → every p (joined (map g xs)) ≡ true
  unfolding every joined
  every_groups g h [] = refl
  every_groups g h (x ∷ xs) = every_append (g x) (joined (map g xs)) (h x) (every_groups g h xs)

-- lists joined, with one more behind; and made of the numbers that pass
joined_last : {A : Type 0} (xs : List (List A)) (y : List A) → joined (xs ++ (y ∷ [])) ≡ joined xs ++ y
unfolding joined
joined_last [] y = append-nil y
joined_last (x ∷ xs) y = ap (λ l. x ++ l) (joined_last xs y) ∙ sym (append_assoc x (joined xs) y)

pub map_chosen : {A : Type 0} (t : ℕ → Bool) (f g : ℕ → A) (n : ℕ) (h : ℕ → ℕ) → ((i : ℕ) → i < n → t (h i) ≡ true → f (h i) ≡ g (h i)) → map f (select t (tab n h)) ≡ map g (select t (tab n h))
unfolding select tab
map_chosen t f g zero h e = refl
map_chosen t f g (suc n) h e = elim (truth (t (h zero))) [
  | holds q ↦ rw q (ap₂ ◌∷◌ (e zero (omega arith) q) (map_chosen t f g n (λ i. h (suc i)) (λ i l. e (suc i) (omega arith))))
  | fails q ↦ rw q (map_chosen t f g n (λ i. h (suc i)) (λ i l. e (suc i) (omega arith)))
]

-- by tests that agree
pub chosen_same : {A B : Type 0} (t u : A → Bool) (f g : A → B) → ((x : A) → t x ≡ u x) → ((x : A) → t x ≡ true → f x ≡ g x) → (xs : List A) → map f (select t xs) ≡ map g (select u xs)
unfolding select
chosen_same t u f g s e [] = refl
chosen_same t u f g s e (x ∷ xs) = elim (truth (t x)) [
  | holds q ↦ rw (sym (s x), q) (ap₂ ◌∷◌ (e x q) (chosen_same t u f g s e xs))
  | fails q ↦ rw (sym (s x), q) (chosen_same t u f g s e xs)
]

-- records of one kind, and of another
abbrev of_one : ℕ → Record → Bool
of_one k rec = eqb (kind_of rec) k

kind_other : (a k : ℕ) → (a ≡ k → ⊥) → (xs : List Record) → every (of_one a) xs ≡ true → select (of_one k) xs ≡ []
kind_other a k n xs e =
    select_none (of_one k) xs
    (every_then (of_one a) (λ rec. not (of_one k rec)) (λ rec t. ap not (ne_eqb (kind_of rec) k (λ q. n (sym (eqb-true (kind_of rec) a t) ∙ q)))) xs e)

-- what each record of its kind passes, each of a result's records of that kind passes
module _ (q : Record → Bool) where
  objects_pass : ((o level : ℕ) (field : ℕ → Value) → q (object_record o level field) ≡ true) → (p : Program) (r : Result) (c : ℕ) → every q (objects_shown p r c) ≡ true
  unfolding objects_shown
  objects_pass h p r c =
      every_mapped q (λ o. object_record o (p.level o) (r.field o)) (λ o. h o (p.level o) (r.field o)) (select (is_shown p r c) (numbers_of p))

  histories_pass : ((l : ℕ) (h : History) → q (history_record l h) ≡ true) → (p : Program) (r : Result) (c : ℕ) → every q (histories_shown p r c) ≡ true
  unfolding histories_shown
  histories_pass h p r c =
      every_groups q (λ l. map (history_record l) (r.ended l)) (λ l. every_mapped q (history_record l) (h l) (r.ended l)) (levels_shown p c)

  reply_pass : ((l : ℕ) (v : Value) → q (reply_record l v) ≡ true) → (p : Program) (r : Result) (c l : ℕ) → every q (reply_shown p r c l) ≡ true
  unfolding reply_shown every
  reply_pass h p r c l = elim (truth (p.dom c l)) [
    | holds e ↦ rw e (and_both (q (reply_record l (reply_of (r.ended l)))) true (h l (reply_of (r.ended l))) refl)
    | fails e ↦ rw e refl
  ]

-- each record is whole, and those of a result are of their kinds
object_whole : (o level : ℕ) (field : ℕ → Value) → whole (object_record o level field) ≡ true
unfolding object_record
object_whole o level field = refl

history_whole : (l : ℕ) (h : History) → whole (history_record l h) ≡ true
unfolding history_record
history_whole l h = refl

reply_whole : (l : ℕ) (v : Value) → whole (reply_record l v) ≡ true
unfolding reply_record
reply_whole l v = refl

objects_kind : (p : Program) (r : Result) (c : ℕ) → every (of_one 5) (objects_shown p r c) ≡ true
objects_kind = objects_pass (of_one 5) (λ o level field. unfold object_record in refl)

histories_kind : (p : Program) (r : Result) (c : ℕ) → every (of_one 6) (histories_shown p r c) ≡ true
histories_kind = histories_pass (of_one 6) (λ l h. unfold history_record in refl)

reply_kind : (p : Program) (r : Result) (c l : ℕ) → every (of_one 7) (reply_shown p r c l) ≡ true
reply_kind = reply_pass (of_one 7) (λ l v. unfold reply_record in refl)

-- histories by their level
abbrev of_level : ℕ → Record → Bool
of_level l rec = eqb (byte_of rec 1) l

level_own : (l : ℕ) (hs : List History) → select (of_level l) (map (history_record l) hs) ≡ map (history_record l) hs
unfolding history_record
level_own l hs = select-all (of_level l) (map (history_record l) hs) (every_mapped (of_level l) (history_record l) (λ h. eq-eqb l l refl) hs)

level_other : (l k : ℕ) → (l ≡ k → ⊥) → (hs : List History) → select (of_level l) (map (history_record k) hs) ≡ []
unfolding history_record
level_other l k n hs =
    select_none (of_level l) (map (history_record k) hs)
    (every_mapped (λ rec. not (of_level l rec)) (history_record k) (λ h. ap not (ne_eqb k l (λ e. n (sym e)))) hs)

-- groups by rising number, of which l chooses its own and nothing of another
module _ {A : Type 0} (pick : ℕ → A → Bool) (g : ℕ → List A) (own : (l : ℕ) → select (pick l) (g l) ≡ g l) (other : (l k : ℕ) → (l ≡ k → ⊥) → select (pick l) (g k) ≡ []) where
  -- one group more
  joined_more : (n : ℕ) (f : ℕ → List A) → joined (tab (suc n) f) ≡ joined (tab n f) ++ f n
  joined_more n f = ap joined (tab_more n f) ∙ joined_last (tab n f) (f n)

  pick_more : (l n : ℕ) → select (pick l) (joined (tab (suc n) g)) ≡ select (pick l) (joined (tab n g)) ++ select (pick l) (g n)
  pick_more l n = ap (select (pick l)) (joined_more n g) ∙ select-append (pick l) (joined (tab n g)) (g n)

  pick_none : (n l : ℕ) → n ≤ l → select (pick l) (joined (tab n g)) ≡ []
  pick_none zero l h = unfold tab joined select in refl
  pick_none (suc n) l h = pick_more l n ∙ ap₂ ◌++◌ (pick_none n l (omega (arith, h))) (other l n (λ q. omega (arith, h, q)))

  pick_own : (n l : ℕ) → l < n → select (pick l) (joined (tab n g)) ≡ g l
  pick_own zero l h = absurd (omega arith)
  pick_own (suc n) l h = elim (dec_lt l n) [
    | yes k ↦
        pick_more l n ∙ ap₂ ◌++◌ (pick_own n l k) (other l n (λ q. omega (arith, k, q))) ∙ append-nil (g l)
    | no k ↦
        let same : n ≡ l = omega (arith, h, k) in
        pick_more l n ∙ ap₂ ◌++◌ (pick_none n l (omega (arith, k))) (rw same (own l))
  ]

  -- all of them are what each number chooses, one after the other, as far as one likes
  pub picked : (n more : ℕ) → joined (tab (n + more) (λ l. select (pick l) (joined (tab n g)))) ≡ joined (tab n g)
  picked n zero =
      let none : n + 0 ≡ n = omega arith in
      ap (λ k. joined (tab k (λ l. select (pick l) (joined (tab n g))))) none ∙ ap joined (tab_ext n _ g (λ l h. pick_own n l h))
  picked n (suc more) =
      let one : n + suc more ≡ suc (n + more) = omega arith in
      ap (λ k. joined (tab k (λ l. select (pick l) (joined (tab n g))))) one
      ∙ joined_more (n + more) (λ l. select (pick l) (joined (tab n g)))
      ∙ ap₂ ◌++◌ (picked n more) (pick_none n (n + more) (omega arith))
      ∙ append-nil (joined (tab n g))

-- the group of a level, where clearance c is shown it
abbrev pub group_shown : Program → Result → ℕ → ℕ → List Record
group_shown p r c l = cond (p.dom c l) (map (history_record l) (r.ended l)) []

group_own : (p : Program) (r : Result) (c l : ℕ) → select (of_level l) (group_shown p r c l) ≡ group_shown p r c l
group_own p r c l = elim (truth (p.dom c l)) [
  | holds e ↦ rw e (level_own l (r.ended l))
  | fails e ↦ rw e (unfold select in refl)
]

group_other : (p : Program) (r : Result) (c l k : ℕ) → (l ≡ k → ⊥) → select (of_level l) (group_shown p r c k) ≡ []
group_other p r c l k n = elim (truth (p.dom c k)) [
  | holds e ↦ rw e (level_other l k n (r.ended k))
  | fails e ↦ rw e (unfold select in refl)
]

module _ (p : Program) (rootLevel : ℕ) (r : Result) (c : ℕ) where
  -- the bytes of the result
  abbrev bytes : List ℕ
  bytes = bytes_of p rootLevel r c

  bytes_are : bytes ≡ joined (objects_shown p r c ++ histories_shown p r c ++ reply_shown p r c rootLevel)
  unfolding bytes_of
  bytes_are = refl

  -- the records that they are cut into, and those of one kind
  records_shown : records_of bytes ≡ objects_shown p r c ++ histories_shown p r c ++ reply_shown p r c rootLevel
  records_shown =
      ap records_of bytes_are
      ∙ records_joined (objects_shown p r c ++ histories_shown p r c ++ reply_shown p r c rootLevel)
      (every_append whole (objects_shown p r c ++ histories_shown p r c) (reply_shown p r c rootLevel)
      (every_append whole (objects_shown p r c) (histories_shown p r c)
      (objects_pass whole object_whole p r c) (histories_pass whole history_whole p r c))
      (reply_pass whole reply_whole p r c rootLevel))

  kind_shown : (k : ℕ) → of_kind k bytes ≡ select (of_one k) (objects_shown p r c) ++ select (of_one k) (histories_shown p r c) ++ select (of_one k) (reply_shown p r c rootLevel)
  unfolding of_kind
  kind_shown k =
      ap (select (of_one k)) records_shown
      ∙ select-append (of_one k) (objects_shown p r c ++ histories_shown p r c) (reply_shown p r c rootLevel)
      ∙ ap (λ l. l ++ select (of_one k) (reply_shown p r c rootLevel)) (select-append (of_one k) (objects_shown p r c) (histories_shown p r c))

  -- each kind is found as it was shown
  pub objects_found : of_kind 5 bytes ≡ objects_shown p r c
  objects_found =
      kind_shown 5
      ∙ ap₂ ◌++◌ (ap₂ ◌++◌ (select-all (of_one 5) _ (objects_kind p r c)) (kind_other 6 5 (omega arith) _ (histories_kind p r c)))
      (kind_other 7 5 (omega arith) _ (reply_kind p r c rootLevel))
      ∙ append-nil (objects_shown p r c ++ [])
      ∙ append-nil (objects_shown p r c)

  pub histories_found : of_kind 6 bytes ≡ histories_shown p r c
  histories_found =
      kind_shown 6
      ∙ ap₂ ◌++◌ (ap₂ ◌++◌ (kind_other 5 6 (omega arith) _ (objects_kind p r c)) (select-all (of_one 6) _ (histories_kind p r c)))
      (kind_other 7 6 (omega arith) _ (reply_kind p r c rootLevel))
      ∙ append-nil (histories_shown p r c)

  pub reply_found : of_kind 7 bytes ≡ reply_shown p r c rootLevel
  reply_found =
      kind_shown 7
      ∙ ap₂ ◌++◌ (ap₂ ◌++◌ (kind_other 5 7 (omega arith) _ (objects_kind p r c)) (kind_other 6 7 (omega arith) _ (histories_kind p r c)))
      (select-all (of_one 7) _ (reply_kind p r c rootLevel))

  -- the histories of each level
  histories_grouped : of_kind 6 bytes ≡ joined (tab p.levels (group_shown p r c))
  unfolding histories_shown
  histories_grouped =
      histories_found ∙ chosen_groups (p.dom c) (λ l. map (history_record l) (r.ended l)) p.levels (λ l. l)

  pub histories_of_level : (l : ℕ) → l < p.levels → histories_at l bytes ≡ group_shown p r c l
  histories_of_level l h =
      ap (select (of_level l)) histories_grouped
      ∙ pick_own of_level (group_shown p r c) (group_own p r c) (group_other p r c) p.levels l h

  pub histories_of_none : (l : ℕ) → p.levels ≤ l → histories_at l bytes ≡ []
  histories_of_none l h =
      ap (select (of_level l)) histories_grouped
      ∙ pick_none of_level (group_shown p r c) (group_own p r c) (group_other p r c) p.levels l h

  -- and of one level after the other
  pub histories_by_level : (more : ℕ) → joined (tab (p.levels + more) (λ l. histories_at l bytes)) ≡ histories_shown p r c
  histories_by_level more =
      ap (λ hs. joined (tab (p.levels + more) (λ l. select (of_level l) hs))) histories_grouped
      ∙ picked of_level (group_shown p r c) (group_own p r c) (group_other p r c) p.levels more
      ∙ sym histories_grouped
      ∙ histories_found

  -- the bytes are made of the records that document 01 compares, of as many levels as one likes
  pub made_of_records : (more : ℕ) → bytes ≡ joined (of_kind 5 bytes ++ joined (tab (p.levels + more) (λ l. histories_at l bytes)) ++ of_kind 7 bytes)
  made_of_records more =
      bytes_are ∙ ap joined (sym (ap₂ ◌++◌ (ap₂ ◌++◌ objects_found (histories_by_level more)) reply_found))

-- bytes that are the same have the same records
pub same_records : (a b : List ℕ) → a ≡ b → SameRecords a b
same_records a b e =
    record { objects = ap (of_kind 5) e; histories = λ l. ap (histories_at l) e; reply = ap (of_kind 7) e }

-- and those of results that have the same records are the same
pub by_records : ComparedByRecords
by_records p p' rootLevel rootLevel' r r' c c' = (same_records _ _, λ s. by s)
  where
    A : List ℕ
    A = bytes_of p rootLevel r c

    by : SameRecords (bytes_of p rootLevel r c) (bytes_of p' rootLevel' r' c') → bytes_of p rootLevel r c ≡ bytes_of p' rootLevel' r' c'
    by s =
        let both : p.levels + p'.levels ≡ p'.levels + p.levels = omega arith in
        made_of_records p rootLevel r c p'.levels
        ∙ ap joined (ap₂ ◌++◌ (ap₂ ◌++◌ s.objects
        (ap (λ n. joined (tab n (λ l. histories_at l A))) both ∙ ap joined (tab_ext (p'.levels + p.levels) _ _ (λ l h. s.histories l))))
        s.reply)
        ∙ sym (made_of_records p' rootLevel' r' c' p.levels)

-- what is written over a buffer is found at its start
pub written_bytes : (bytes buffer : List ℕ) → take (length bytes) (written_over bytes buffer) ≡ bytes
written_bytes bytes buffer = take-append_seam bytes _
