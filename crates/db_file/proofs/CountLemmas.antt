-- The commits of a log, counted frame by frame.
use Rattle.std.proofs.Common.{◌≡◌, inl, inr, ℕ, suc, ◌+◌, ◌<◌, ◌≤◌, ◌&&◌, if◌then◌else◌, Bool, true, false, List, refl, sym, ap, ap₂, ◌∙◌, subst, arith, add-one, add-zero, Option}
use Rattle.std.proofs.lemmas.Bool.Decides.{leb_tells}
use Rattle.sqlite_wal.specs.Recovery.{frame, header}
use Rattle.db_file.specs.Wal.{ends_commit, ends_in, has_salts, is_frame_whole, is_salted, HasFrame, IsBefore, LosesCommits}

abbrev pub one_if : Bool → ℕ
one_if b = if b then 1 else 0

pub one_at_most : (b : Bool) (one : ℕ) → one ≡ one_if b → one ≤ 1
one_at_most true one is = omega (arith, is)
one_at_most false one is = omega (arith, is)

-- the frames before this one have the log's salts, and it is in hand
pub record IsCounting (page : ℕ) (log : List ℕ) (stop n count : ℕ) (room : List ℕ)
    (left : Option (List ℕ)) : Type 0 where
  pub salted : (i : ℕ) → i < n → is_salted page log (stop + i) ≡ true
  pub so_far : count ≡ ends_in page log stop n
  pub next : HasFrame page log (stop + n) room left

pub begins : (page stop : ℕ) (log room : List ℕ) (left : Option (List ℕ)) → HasFrame page log stop room left
    → IsCounting page log stop 0 0 room left
unfolding ends_in
begins page stop log room left here =
    record {
      salted = λ i low. absurd (omega (arith, low));
      so_far = refl;
      next = subst (λ k. HasFrame page log k room left) (sym (add-zero stop)) here;
    }

-- the frame in hand has the log's salts, or not
in_hand : (page i : ℕ) (log head room : List ℕ) (left : Option (List ℕ)) (salted : Bool) → header log ≡ head
    → HasFrame page log i room left → has_salts head room ≡ salted → is_salted page log i ≡ salted
in_hand page i log head room left salted same next is =
    ap (λ b. b && has_salts (header log) (frame page log i)) next.whole
    ∙ ap₂ has_salts same (sym next.same)
    ∙ is

module _ (page stop n count : ℕ) (log head room : List ℕ) (left : Option (List ℕ))
    (same : header log ≡ head) (here : IsCounting page log stop n count room left) where
  -- the next frame is to be read
  pub before_next : IsBefore page log (stop + (n + 1)) left
  before_next =
      let further : suc (stop + n) ≡ stop + (n + 1) = omega arith in
      subst (λ k. IsBefore page log k left) further here.next.behind

  -- a frame without the salts ends the run
  pub ends_here : has_salts head room ≡ false → LosesCommits page log stop count
  ends_here unsalted =
      record {
        frames = n;
        run = record {
          salted = here.salted;
          ended =
              in_hand page (stop + n) log head room left false same here.next unsalted;
        };
        lost = here.so_far;
      }

  module _ (one : ℕ) (is : one ≡ one_if (ends_commit room)) (salts : has_salts head room ≡ true) where
    salted_on : (i : ℕ) → i < n + 1 → is_salted page log (stop + i) ≡ true
    salted_on i low =
        elim (leb_tells (suc i) n) [
          | inl h ↦ here.salted i h.1
          | inr h ↦
              let last : n ≡ i = omega (arith, h.1, low) in
              subst (λ k. is_salted page log (stop + k) ≡ true) last
              (in_hand page (stop + n) log head room left true same here.next salts)
        ]

    one_more : count + one ≡ ends_in page log stop (n + 1)
    unfolding ends_in
    one_more =
        ap₂ (λ x y. x + y) here.so_far (is ∙ ap (λ f. one_if (ends_commit f)) here.next.same)
        ∙ ap (ends_in page log stop) (sym (add-one n))

    -- it goes on with a frame that is whole
    pub goes_on : (next : List ℕ) (behind : Option (List ℕ)) → HasFrame page log (stop + (n + 1)) next behind
        → IsCounting page log stop (n + 1) (count + one) next behind
    goes_on next behind found = record { salted = salted_on; so_far = one_more; next = found }

    -- and ends at one that is not
    pub ends_behind : is_frame_whole page log (stop + (n + 1)) ≡ false
        → LosesCommits page log stop (count + one)
    ends_behind cut =
        let there = stop + (n + 1) in
        record {
          frames = n + 1;
          run = record {
            salted = salted_on;
            ended = ap (λ b. b && has_salts (header log) (frame page log there)) cut;
          };
          lost = one_more;
        }
