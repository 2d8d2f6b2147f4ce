-- A list with saves and restores, from the laws of one call: what one drive or settle replies, which number a save has, and that a restore gives back the
-- state at its save. Stated for any state by the calls kept, and any facts `Fine` of these that accepted calls keep. Assumes nothing.
use mathlib.Core.Bool.{Bool, true, false, cond}
use mathlib.Core.List.{List, [], ◌∷◌, map}
use mathlib.Core.Path.{◌≡◌, refl, sym, ap, ◌∙◌}
use Prim.Native.Nat.{ℕ, zero, suc}
use Rattle.std.specs.Prelude.{Result}
use lib.Dec.{ltb, leb, leb-zero, leb-suc-zero, leb-suc-suc}
use lib.ListN.{length, get_or, drop}
use lib.Seq.{take-append_seam}
use Rattle.course.specs.Grader.Outcome.{Outcome, laid_values_of}
use Rattle.course.specs.Grader.Cause.{number_of, cause_number}
use Rattle.course.specs.declared.cause.Cause.{Cause}
use Rattle.course.specs.declared.tiles.TrackPoint.{TrackPoint}
use Rattle.course.proofs.BoolLaws.{cleared}
use Rattle.run.specs.Grader.State.{State, Columns, short_of}
use Rattle.run.specs.Grader.Start.{zero_state}
use Rattle.run.specs.Grader.Saved.{fields_of, saved_form}
use Rattle.run.specs.Grader.Save.{save_check, save_at, save_of}
use Rattle.run.specs.Grader.Restore.{AfterRestore, after_restore, restore_check, restore_at, restore_of}
use Rattle.run.proofs.CheckLaws.{number-some}
use Rattle.run.proofs.SavedLaws.{none-loaded}
use Rattle.certificate.specs.Rules.Answers.{Reply}
use Rattle.certificate.specs.Rules.Answers.Reply.{answered, decided}
use Rattle.certificate.specs.Grader.Calls.{Call, Replied, reply_of, replies_of, state_after, Request, Going, going, Went, went, saves_after, state_next, request_of, requests_said, going_after}
use Rattle.certificate.specs.Claim.Scorer.{History, KeptCalls, drives, settles, score, save_number, restore_number, noted, taken_up, after_item, after_items}
use Rattle.certificate.specs.Claim.Items.{Lending, lent_by, lengths_of, CourseCall, call_of, told_of, CourseItem, request_by, item_by, requests_of, items_of, reply_to, replies_to, Sums, KeptSums, kept_sums, was_accepted, sums_after, sums_over}
use Rattle.certificate.proofs.ScoreLaws.{sums_of, one-sums}

-- no bytes are no saved form
pub none-restored : (m most : ℕ) (l : Columns) (n : ℕ) → restore_of m most [] l n ≡ after_restore (Result.Err Cause.Form) (zero_state m)
unfolding restore_of restore_at restore_check
none-restored m most l n = rw (none-loaded m most)

module _ (m most : ℕ) (c : List TrackPoint) (o : Outcome) (counted : (laid_values_of o.answer).n ≡ length c)
    (state_at : History → State) (Fine : History → Type 0) (Ok : CourseCall (length c) → Type 0) (Restores : Type 0)
    (step : (h : History) → Fine h → (g : CourseCall (length c)) → reply_of m most (state_at h) (call_of o g) ≡ record { answer = (score c h (told_of o g)).answer; state = state_at (score c h (told_of o g)).kept })
    (keeps : (h : History) → Fine h → (g : CourseCall (length c)) → Ok g → Fine (score c h (told_of o g)).kept)
    (save-number : (h : History) → Fine h → (room : ℕ) → cause_number (save_check most (state_at h).setup (state_at h).progress room) ≡ save_number c h room)
    (round_trip : Restores → (h : History) → Fine h → ltb (settles h) (drives h) ≡ false → (by : Lending (length c))
    → restore_of m most (saved_form (fields_of (state_at h))) (lent_by o by) (length c)
    ≡ cond (short_of (length c) (lent_by o by)) (after_restore (Result.Err Cause.Length) (zero_state m)) (after_restore (Result.Ok tt) (state_at h)))
  where
    abbrev pub bytes_at : History → List ℕ
    bytes_at h = saved_form (fields_of (state_at h))

    abbrev pub going_of : KeptCalls → Going
    going_of k = going (state_at k.calls) (map bytes_at k.saves)

    -- the calls at each save are a run's, at a drive's turn
    abbrev pub AllFine : List History → Type 0
    AllFine [] = Unit
    AllFine (h ∷ hs) = (Fine h × (ltb (settles h) (drives h) ≡ false)) × AllFine hs

    abbrev pub KeptFine : KeptCalls → Type 0
    KeptFine k = Fine k.calls × AllFine k.saves

    abbrev pub OkItem : CourseItem (length c) → Type 0
    OkItem (CourseItem.call g) = Ok g
    OkItem (CourseItem.save out) = Unit
    OkItem (CourseItem.restore by i) = Restores

    abbrev pub OkAll : List (CourseItem (length c)) → Type 0
    OkAll [] = Unit
    OkAll (i ∷ is) = OkItem i × OkAll is

    -- ---- a save, by its check
    abbrev after_saving : Result Unit Cause → KeptCalls → List ℕ → Went
    after_saving r k out =
        let d = save_at r (state_at k.calls) out in
        went (decided (cause_number d.answer)) (going (state_at k.calls) (saves_after d.answer d.out (map bytes_at k.saves)))

    save-at : (r : Result Unit Cause) (k : KeptCalls) (out : List ℕ) → after_saving r k out ≡ went (decided (cause_number r)) (going_of (noted c (cause_number r) k))
    unfolding save_at cause_number noted
    save-at (Result.Ok none) k out =
        ap (λ (bs : List ℕ). went (decided 0) (going (state_at k.calls) (bs ∷ map bytes_at k.saves))) (take-append_seam (bytes_at k.calls) (drop (length (bytes_at k.calls)) out))
    save-at (Result.Err e) k out = rw (number-some e).1

    -- ---- a restore, by its check
    abbrev restored_by : Result Unit Cause → History → AfterRestore
    restored_by (Result.Ok none) h = after_restore (Result.Ok tt) (state_at h)
    restored_by (Result.Err e) h = after_restore (Result.Err e) (zero_state m)

    by_length : (b : Bool) (h : History) → cond b (after_restore (Result.Err Cause.Length) (zero_state m)) (after_restore (Result.Ok tt) (state_at h)) ≡ restored_by (cond b (Result.Err Cause.Length) (Result.Ok tt)) h
    by_length true h = refl
    by_length false h = refl

    abbrev or_none : Bool → Bool → Result Unit Cause
    or_none none short = cond none (Result.Err Cause.Form) (cond short (Result.Err Cause.Length) (Result.Ok tt))

    none-number : (none short : Bool) → cause_number (or_none none short) ≡ cond none 11 (cond short 2 0)
    unfolding cause_number number_of
    none-number true short = refl
    none-number false true = refl
    none-number false false = refl

    one-restore : Restores → (hs : List History) → AllFine hs → (i : ℕ) (h : History) (by : Lending (length c))
        → restore_of m most (get_or (map bytes_at hs) i []) (lent_by o by) (length c) ≡ restored_by (or_none (leb (length hs) i) (short_of (length c) (lent_by o by))) (get_or hs i h)
    one-restore w [] f i h by = none-restored m most (lent_by o by) (length c) ∙ ap (λ (b : Bool). restored_by (or_none b (short_of (length c) (lent_by o by))) h) (sym (leb-zero i))
    one-restore w (g ∷ hs) f zero h by =
        round_trip w g f.0.0 f.0.1 by ∙ by_length (short_of (length c) (lent_by o by)) g
        ∙ ap (λ (b : Bool). restored_by (or_none b (short_of (length c) (lent_by o by))) g) (sym (leb-suc-zero (length hs)))
    one-restore w (g ∷ hs) f (suc i) h by =
        one-restore w hs f.1 i h by ∙ ap (λ (b : Bool). restored_by (or_none b (short_of (length c) (lent_by o by))) (get_or hs i h)) (sym (leb-suc-suc (length hs) i))

    abbrev after_restoring : KeptCalls → AfterRestore → Went
    after_restoring k d = went (decided (cause_number d.answer)) (going (state_next d.answer d.state (state_at k.calls)) (map bytes_at k.saves))

    restore-at : (r : Result Unit Cause) (k : KeptCalls) (i : ℕ) → after_restoring k (restored_by r (get_or k.saves i k.calls)) ≡ went (decided (cause_number r)) (going_of (taken_up c (cause_number r) k i))
    unfolding cause_number taken_up
    restore-at (Result.Ok none) k i = refl
    restore-at (Result.Err e) k i = rw (number-some e).1

    -- ---- one item
    request-is : (k : KeptCalls) → KeptFine k → (i : CourseItem (length c)) → OkItem i → request_of m most (going_of k) (request_by o i) ≡ went (reply_to c k (item_by o i)) (going_of (after_item c k (item_by o i)))
    unfolding request_of request_by item_by reply_to after_item save_of restore_number lengths_of short_of
    request-is k f (CourseItem.call g) w = ap (λ (r : Replied). went (answered r.answer) (going r.state (map bytes_at k.saves))) (step k.calls f.0 g)
    request-is k f (CourseItem.save out) w =
        save-at (save_check most (state_at k.calls).setup (state_at k.calls).progress (length out)) k out
        ∙ ap (λ (j : ℕ). went (decided j) (going_of (noted c j k))) (save-number k.calls f.0 (length out))
    request-is k f (CourseItem.restore by i) w =
        ap (λ (n : ℕ). after_restoring k (restore_of m most (get_or (map bytes_at k.saves) i []) (lent_by o by) n)) counted
        ∙ ap (after_restoring k) (one-restore w k.saves f.1 i k.calls by)
        ∙ restore-at (or_none (leb (length k.saves) i) (short_of (length c) (lent_by o by))) k i
        ∙ ap (λ (j : ℕ). went (decided j) (going_of (taken_up c j k i))) (none-number (leb (length k.saves) i) (short_of (length c) (lent_by o by)))

    -- ---- what is kept stays a run's
    note-fine : (k : KeptCalls) → KeptFine k → (room j : ℕ) → save_number c k.calls room ≡ j → KeptFine (noted c j k)
    unfolding noted save_number
    note-fine k f room zero e = (f.0, ((f.0, (cleared (ltb (settles k.calls) (drives k.calls)) 4 _ e).0), f.1))
    note-fine k f room (suc j) e = f

    at-fine : (h : History) → Fine h → (hs : List History) → AllFine hs → (i : ℕ) → Fine (get_or hs i h)
    at-fine h f [] fs i = f
    at-fine h f (g ∷ hs) fs zero = fs.0.0
    at-fine h f (g ∷ hs) fs (suc i) = at-fine h f hs fs.1 i

    take-fine : (k : KeptCalls) → KeptFine k → (i j : ℕ) → KeptFine (taken_up c j k i)
    unfolding taken_up
    take-fine k f i zero = (at-fine k.calls f.0 k.saves f.1 i, f.1)
    take-fine k f i (suc j) = f

    item-fine : (k : KeptCalls) → KeptFine k → (i : CourseItem (length c)) → OkItem i → KeptFine (after_item c k (item_by o i))
    unfolding after_item item_by
    item-fine k f (CourseItem.call g) w = (keeps k.calls f.0 g w, f.1)
    item-fine k f (CourseItem.save out) w = note-fine k f (length out) (save_number c k.calls (length out)) refl
    item-fine k f (CourseItem.restore by i) w = take-fine k f i (restore_number c k (lengths_of (lent_by o by)) i)

    -- ---- the whole list
    pub replies-same : (is : List (CourseItem (length c))) (k : KeptCalls) → KeptFine k → OkAll is → requests_said m most (going_of k) (requests_of o is) ≡ replies_to c k (items_of o is)
    unfolding requests_said replies_to
    replies-same [] k f w = refl
    replies-same (i ∷ is) k f w =
        ap (λ (r : Went). r.reply ∷ requests_said m most r.going (requests_of o is)) (request-is k f i w.0)
        ∙ ap (λ (r : List Reply). reply_to c k (item_by o i) ∷ r) (replies-same is (after_item c k (item_by o i)) (item-fine k f i w.0) w.1)

    pub going-same : (is : List (CourseItem (length c))) (k : KeptCalls) → KeptFine k → OkAll is → going_after m most (going_of k) (requests_of o is) ≡ going_of (after_items c k (items_of o is))
    unfolding going_after after_items
    going-same [] k f w = refl
    going-same (i ∷ is) k f w =
        ap (λ (r : Went). going_after m most r.going (requests_of o is)) (request-is k f i w.0)
        ∙ going-same is (after_item c k (item_by o i)) (item-fine k f i w.0) w.1

    pub kept_fine : (is : List (CourseItem (length c))) (k : KeptCalls) → KeptFine k → OkAll is → KeptFine (after_items c k (items_of o is))
    unfolding after_items
    kept_fine [] k f w = f
    kept_fine (i ∷ is) k f w = kept_fine is (after_item c k (item_by o i)) (item-fine k f i w.0) w.1

-- ---- the sums over the calls that stand
module _ (c : List TrackPoint) (o : Outcome) where
  abbrev pub kept_sums_of : KeptCalls → KeptSums
  kept_sums_of k = kept_sums (sums_of c k.calls) (map (sums_of c) k.saves)

  sums_at : (hs : List History) (i : ℕ) (h : History) → get_or (map (sums_of c) hs) i (sums_of c h) ≡ sums_of c (get_or hs i h)
  sums_at [] i h = refl
  sums_at (g ∷ hs) zero h = refl
  sums_at (g ∷ hs) (suc i) h = sums_at hs i h

  save-sums : (out : List ℕ) (j : ℕ) (k : KeptCalls) → sums_after {n = length c} (kept_sums_of k) (CourseItem.save out) (decided j) ≡ kept_sums_of (noted c j k)
  unfolding sums_after was_accepted noted
  save-sums out zero k = refl
  save-sums out (suc j) k = refl

  restore-sums : (by : Lending (length c)) (j i : ℕ) (k : KeptCalls) → sums_after (kept_sums_of k) (CourseItem.restore by i) (decided j) ≡ kept_sums_of (taken_up c j k i)
  unfolding sums_after was_accepted taken_up
  restore-sums by zero i k = ap (λ (s : Sums). kept_sums s (map (sums_of c) k.saves)) (sums_at k.saves i k.calls)
  restore-sums by (suc j) i k = refl

  item-sums : (k : KeptCalls) (i : CourseItem (length c)) → sums_after (kept_sums_of k) i (reply_to c k (item_by o i)) ≡ kept_sums_of (after_item c k (item_by o i))
  unfolding reply_to item_by after_item sums_after
  item-sums k (CourseItem.call g) = ap (λ (s : Sums). kept_sums s (map (sums_of c) k.saves)) (one-sums c k.calls (told_of o g))
  item-sums k (CourseItem.save out) = save-sums out (save_number c k.calls (length out)) k
  item-sums k (CourseItem.restore by i) = restore-sums by (restore_number c k (lengths_of (lent_by o by)) i) i k

  pub sums_same : (is : List (CourseItem (length c))) (k : KeptCalls) → sums_over (kept_sums_of k) is (replies_to c k (items_of o is)) ≡ kept_sums_of (after_items c k (items_of o is))
  unfolding sums_over replies_to after_items
  sums_same [] k = refl
  sums_same (i ∷ is) k =
      ap (λ (t : KeptSums). sums_over t is (replies_to c (after_item c k (item_by o i)) (items_of o is))) (item-sums k i)
      ∙ sums_same is (after_item c k (item_by o i))

-- ---- a list of drives and settles alone is one of these lists
pub calls-said : (m most : ℕ) (cs : List Call) (g : Going) → requests_said m most g (map Request.call cs) ≡ map answered (replies_of m most g.state cs)
unfolding requests_said request_of replies_of
calls-said m most [] g = refl
calls-said m most (c ∷ cs) g =
    ap (λ (r : List Reply). answered (reply_of m most g.state c).answer ∷ r) (calls-said m most cs (going (reply_of m most g.state c).state g.saves))

pub calls-going : (m most : ℕ) (cs : List Call) (g : Going) → (going_after m most g (map Request.call cs)).state ≡ state_after m most g.state cs
unfolding going_after request_of state_after
calls-going m most [] g = refl
calls-going m most (c ∷ cs) g = calls-going m most cs (going (reply_of m most g.state c).state g.saves)
