-- What writes add to the text of a journal.
use Rattle.std.proofs.Common.{◌≡◌, ◌∙◌, ◌==◌, ℕ, ℤ, nat_abs, length, List, [], ◌∷◌, ◌++◌, Bool, true, false, Option, None, Some, append-nil, append_assoc, ap, inr, refl, subst, sym}
use Rattle.std.specs.Prelude.{option_map}
use Rattle.desk_record.specs.Record.{entry}
use Rattle.desk_program.specs.Enrolling.{Noted, request_entry, with_request}
use Rattle.desk_recording.specs.Recording.{HasText, NotesOnDisk}
use Rattle.desk_recording.specs.RecordWrites.{Appended, AppendsKnown, Failed, MakesWrite, Synced, Write, appended_in, noted_in, text_in}

appended_and : (writes : List Write) (more : List Write)
    → appended_in (writes ++ more) ≡ appended_in writes ++ appended_in more
appended_and [] more = refl
appended_and (Appended bytes ∷ writes) more =
    ap (λ rest. bytes ++ rest) (appended_and writes more)
    ∙ sym (append_assoc bytes (appended_in writes) (appended_in more))
appended_and (Synced ∷ writes) more = appended_and writes more
appended_and (Failed ∷ writes) more = appended_and writes more

-- what adds no bytes
same_text : (writes : List Write) (write : Write) → appended_in (write ∷ []) ≡ []
    → appended_in (writes ++ write ∷ []) ≡ appended_in writes
same_text writes write none =
    appended_and writes (write ∷ []) ∙ ap (λ v. appended_in writes ++ v) none ∙ append-nil
    (appended_in writes)

-- nothing is written
pub extends_none : (old : Option (List Write)) (bytes : List ℕ) → AppendsKnown old old false bytes
extends_none None bytes = tt
extends_none (Some writes) bytes = refl

-- a text is appended, or isn't
pub extends_by : (old now : Option (List Write)) (done : Bool) (bytes : List ℕ)
    → MakesWrite old now done (Appended bytes) → AppendsKnown old now done bytes
extends_by None now done bytes makes = tt
extends_by (Some writes) now true bytes makes =
    ap text_in makes ∙ ap Some (appended_and writes (Appended bytes ∷ [])
    ∙ ap (λ v. appended_in writes ++ v) (append-nil bytes))
extends_by (Some writes) now false bytes makes = ap text_in makes ∙ ap Some (same_text writes Failed refl)

-- what is asked of the disk leaves the text as it is
synced_text : (old now : Option (List Write)) (done : Bool) → MakesWrite old now done Synced
    → text_in now ≡ text_in old
synced_text None now true makes = ap text_in makes
synced_text None now false makes = ap text_in makes
synced_text (Some writes) now true makes = ap text_in makes ∙ ap Some (same_text writes Synced refl)
synced_text (Some writes) now false makes = ap text_in makes ∙ ap Some (same_text writes Failed refl)

abbrev noted_as : ℕ → Option (List ℕ) → Option Noted
noted_as second text = option_map (λ v. record { text = v; second = second }) text

abbrev text_of : ℕ → Option (List ℕ) → Option (List ℕ)
text_of second text = option_map (λ n. n.text) (noted_as second text)

-- a text that is known is noted
text_noted : (second : ℕ) (now : Option (List Write)) (text : List ℕ) → text_in now ≡ Some text
    → HasText (noted_in second now) text
text_noted second now text is = ap (text_of second) is

all_noted : (second : ℕ) (now : Option (List Write)) (text : List ℕ) → text_in now ≡ Some text
    → noted_in second now ≡ Some (record { text = text; second = second })
all_noted second now text is = ap (noted_as second) is

module _ (before second : ℕ) (old : Option (List Write)) (bytes : List ℕ) (next : Noted → Noted)
    (is : (text : List ℕ) → next (record { text = text; second = before })
    ≡ record { text = text ++ bytes; second = second }) where
  -- entries are appended, and all is on the disk, or isn't
  pub notes_synced : (mid now : Option (List Write)) (done : Bool) → AppendsKnown old mid true bytes
      → MakesWrite mid now done Synced → NotesOnDisk (noted_in before old) (noted_in second now) done next
  notes_synced mid now done extends makes = by old done extends (synced_text mid now done makes)
    where
      by : (old : Option (List Write)) (done : Bool) → AppendsKnown old mid true bytes
          → text_in now ≡ text_in mid → NotesOnDisk (noted_in before old) (noted_in second now) done next
      by None done extends same = tt
      by (Some writes) true extends same = all_noted second now (appended_in writes ++ bytes) (same ∙ extends)
          ∙ ap Some (sym (is (appended_in writes)))
      by (Some writes) false extends same = inr (subst (HasText (noted_in second now))
          (sym (ap (λ n. n.text) (is (appended_in writes))))
          (text_noted second now (appended_in writes ++ bytes) (same ∙ extends)))

-- a request that has bytes is noted
pub request_noted : (n : Noted) (moment : ℤ) (bytes : List ℕ) → false ≡ (length bytes == 0)
    → with_request n moment bytes ≡ record {
      text = n.text ++ entry (request_entry (nat_abs moment) bytes);
      second = nat_abs moment;
    }
request_noted n moment [] some = cc
request_noted n moment (b ∷ bytes) some = refl
