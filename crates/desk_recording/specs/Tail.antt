-- Tail: what the last journal of a folder says, and what it leaves pending (docs/journal-format.md).
use Rattle.std.specs.Prelude.{◌≡◌, ◌⊎◌, ⊤, ℕ, ◌+◌, ◌-◌, ◌^◌, ◌==◌, ◌&&◌, ◌||◌, min, length, is_none, is_some, nat_le, nat_lt, List, [], ◌∷◌, ◌++◌, Bool, true, false, not, if◌then◌else◌, Option, Some, None, IfSome, option_and_then, Result, Ok, Err}
use Rattle.std.specs.{List.AllByRecursion, Str.bytes_eq, Io.KnownBytes.Consumes, Io.KnownBytes.IsAtEnd}
use Rattle.desk_rules.specs.{Limits.max_priority, Limits.max_spans, Limits.max_total_cells, Limits.is_operator_name, Limits.permitted_in, Outcome.no_terms, declared.permission.PermitFault.PermitFault, declared.terms.Terms.Terms}
use Rattle.desk_cli.specs.declared.line.Enrolment.{Enrolment}
use Rattle.desk_record.specs.{Record.EntryParts, Record.Fits, Record.entries, Record.entry, Record.IsDamagedRecord, Record.IsTooShort, declared.kind.Kind.Kind}
use Rattle.desk_record.specs.declared.kind.Kind.TheVariants as kind
use Rattle.desk_replay.specs.Replaying.{is_failure, last_moment, version}
use Rattle.desk_recording.specs.declared.tail.{Tail.Tail, PendingRequest.PendingRequest, TailEnd.TailEnd, TailEnd.TheVariants.End, TailEnd.TheVariants.Short, TailEnd.TheVariants.Damaged, EntryFault.EntryFault, TailFault.TailFault, TailFault.TheVariants.Unread, TailFault.TheVariants.OutOfMemory, TailFault.TheVariants.NoRecord, TailFault.TheVariants.Endless}
use Rattle.desk_recording.specs.declared.tail.EntryFault.TheVariants as unapplied

-- a request that has no answer, or a 500
pub record UnansweredParts : Type 0 where
  pub second : ℕ
  pub request : List ℕ

-- what a journal's entries say so far: its number, if begun; its permitted priorities and settings; operators
-- enrolled after its last request; that request, if it has no answer, or a 500; and how many bytes they have
pub record TailParts : Type 0 where
  pub record_number : Option ℕ
  pub permitted : List ℕ
  pub terms : Terms
  pub operators : List Enrolment
  pub asked : Option UnansweredParts
  pub size : ℕ

-- the parts of the program's value
abbrev pub unanswered_shown : PendingRequest → UnansweredParts
unanswered_shown u = record { second = u.second; request = u.request.items }

abbrev pub unanswered_in : Option PendingRequest → Option UnansweredParts
unanswered_in None = None
unanswered_in (Some u) = Some (unanswered_shown u)

-- the parts of the program's value
abbrev pub tail_shown : Tail → TailParts
tail_shown t = record {
  record_number = t.record;
  permitted = t.permitted.items;
  terms = t.terms;
  operators = t.operators.items;
  asked = unanswered_in t.asked;
  size = t.size;
}

-- what no entries say
abbrev pub empty_tail : TailParts
empty_tail = record {
  record_number = None;
  permitted = [];
  terms = no_terms;
  operators = [];
  asked = None;
  size = 0;
}

-- what the entries say with one more; none if no desk writes that entry at its place
abbrev pub NextTail : Type 0
NextTail = Option TailParts

-- none if the test holds
abbrev pub none_if : Bool → NextTail → NextTail
none_if test next = if test then None else next

-- with the header: it is the first entry, and has the version of the format
unfoldable pub tail_with_header : TailParts → ℕ → List ℕ → NextTail
tail_with_header t n bytes =
    none_if (is_some t.record_number || not (bytes_eq bytes version))
    (Some (record t { record_number = Some n }))

-- with the permitted priorities `more`, by whether they are valid together
abbrev pub tail_with_permitted_list : TailParts → List ℕ → Result (List ℕ) PermitFault → NextTail
tail_with_permitted_list t more (Err fault) = None
tail_with_permitted_list t more (Ok permitted) =
    Some (record t { permitted = more; terms = record t.terms { permitted = permitted } })

-- with one more permitted priority
unfoldable pub tail_with_permitted : TailParts → ℕ → NextTail
tail_with_permitted t p =
    none_if (nat_lt max_priority p)
    (tail_with_permitted_list t (t.permitted ++ (p ∷ [])) (permitted_in (t.permitted ++ (p ∷ []))))

-- with a limit on spans
unfoldable pub tail_with_spans : TailParts → ℕ → NextTail
tail_with_spans t n =
    none_if (not (nat_le 1 n && nat_le n max_spans))
    (Some (record t { terms = record t.terms { spans = Some n } }))

-- with a limit on cells
unfoldable pub tail_with_cells : TailParts → ℕ → NextTail
tail_with_cells t n =
    none_if (not (nat_le 1 n && nat_le n max_total_cells))
    (Some (record t { terms = record t.terms { cells = Some n } }))

-- with one more operator
unfoldable pub tail_with_operator : TailParts → ℕ → List ℕ → NextTail
tail_with_operator t ceiling name =
    none_if (not (is_operator_name name)) (none_if (nat_lt max_priority ceiling)
    (Some (record t {
      operators = t.operators ++ (record { operator = name; ceiling = ceiling } ∷ []);
    })))

-- with a request: the operators before it are dropped, since the desk has enrolled them
unfoldable pub tail_with_request : TailParts → ℕ → List ℕ → NextTail
tail_with_request t second request =
    none_if (is_some t.asked) (none_if (nat_lt last_moment second)
    (Some (record t {
      operators = [];
      asked = Some (record { second = second; request = request });
    })))

-- with the answer to the pending request, at the same second; after a 500 the request stays pending
abbrev pub tail_with_answer_to : TailParts → Option UnansweredParts → ℕ → List ℕ → NextTail
tail_with_answer_to t None second answer = None
tail_with_answer_to t (Some u) second answer =
    none_if (not (u.second == second))
    (if is_failure answer then Some t else Some (record t { asked = None }))

-- with an answer to the last request
unfoldable pub tail_with_answer : TailParts → ℕ → List ℕ → NextTail
tail_with_answer t second answer = tail_with_answer_to t t.asked second answer

-- none if the entry has bytes of its own
abbrev pub tail_if_bare : List ℕ → NextTail → NextTail
tail_if_bare bytes next = none_if (not (length bytes == 0)) next

-- with one more entry, by its kind, its number and its bytes
abbrev pub tail_with_kind : Kind → TailParts → ℕ → List ℕ → NextTail
tail_with_kind kind.Record t n bytes = tail_with_header t n bytes
tail_with_kind kind.Permitted t n bytes = tail_if_bare bytes (tail_with_permitted t n)
tail_with_kind kind.Spans t n bytes = tail_if_bare bytes (tail_with_spans t n)
tail_with_kind kind.Cells t n bytes = tail_if_bare bytes (tail_with_cells t n)
tail_with_kind kind.Operator t n bytes = tail_with_operator t n bytes
tail_with_kind kind.Request t n bytes = tail_with_request t n bytes
tail_with_kind kind.Answer t n bytes = tail_with_answer t n bytes

-- the kind is that of the header
abbrev pub is_first_kind : Kind → Bool
is_first_kind kind.Record = true
is_first_kind kind.Permitted = false
is_first_kind kind.Spans = false
is_first_kind kind.Cells = false
is_first_kind kind.Operator = false
is_first_kind kind.Request = false
is_first_kind kind.Answer = false

-- with so many more bytes counted; the count saturates at 2^64 - 1
abbrev pub grown : TailParts → ℕ → TailParts
grown t more = record t { size = min (t.size + more) (2 ^ 64 - 1) }

-- with one more entry; the first one is the header
unfoldable pub tail_with : TailParts → EntryParts → NextTail
tail_with t e =
    none_if (is_none t.record_number && not (is_first_kind e.kind))
    (tail_with_kind e.kind (grown t (length (entry e))) e.number e.bytes)

-- with more entries, one after the other
unfoldable pub tail_with_all : TailParts → List EntryParts → NextTail
tail_with_all t [] = Some t
tail_with_all t (e ∷ es) = option_and_then (λ u. tail_with_all u es) (tail_with t e)

-- the result of applying an entry: what the entries say is `new` now; or memory ran out; or no desk writes
-- that entry there
abbrev pub Notes : Result ⊤ EntryFault → NextTail → TailParts → Type 0
Notes (Ok done) outcome new = outcome ≡ Some new
Notes (Err fault) outcome new =
    (fault ≡ unapplied.OutOfMemory) ⊎ ((fault ≡ unapplied.NoRecord) × (outcome ≡ None))

-- why the end of a journal can't be read, by why one of its entries wasn't applied
abbrev pub tail_fault_of : {R : Type 0} → EntryFault → TailFault R
tail_fault_of unapplied.OutOfMemory = OutOfMemory
tail_fault_of unapplied.NoRecord = NoRecord

-- what follows the last whole entry: nothing; a truncated entry; or something else
abbrev pub EndsIn : TailEnd → Option (List ℕ) → Type 0
EndsIn End left = IsAtEnd left
EndsIn Short left = IfSome left IsTooShort
EndsIn Damaged left = IfSome left IsDamagedRecord

-- the entries that were read from old to new say t
pub record AreApplied (old new : Option (List ℕ)) (t : TailParts) : Type 0 where
  pub all : List EntryParts
  pub fit : AllByRecursion Fits all
  pub read : Consumes old new (entries all)
  pub are : tail_with_all empty_tail all ≡ Some t

-- one entry is read, and takes s, what the entries before say, to t
pub record IsApplied (old new : Option (List ℕ)) (s t : TailParts) : Type 0 where
  pub one : EntryParts
  pub fits : Fits one
  pub read : Consumes old new (entry one)
  pub is : tail_with s one ≡ Some t

-- one entry is read that no desk writes after entries that say s
pub record IsNotApplied (old new : Option (List ℕ)) (s : TailParts) : Type 0 where
  pub one : EntryParts
  pub fits : Fits one
  pub read : Consumes old new (entry one)
  pub none : tail_with s one ≡ None

-- all whole entries were read, and say t; and this is what follows them
pub record IsTail (old : Option (List ℕ)) (ended : TailEnd) (t : TailParts) : Type 0 where
  pub mid : Option (List ℕ)
  pub first : AreApplied old mid t
  pub ends : EndsIn ended mid

-- some entries were read, and then one that no desk writes there
pub record IsNoRecord (old : Option (List ℕ)) : Type 0 where
  pub mid : Option (List ℕ)
  pub new : Option (List ℕ)
  pub t : TailParts
  pub first : AreApplied old mid t
  pub unsaid : IsNotApplied mid new t

-- whole entries were read that have 2^64 - 1 bytes or more, which is what their count then says
pub record IsEndless (old : Option (List ℕ)) : Type 0 where
  pub mid : Option (List ℕ)
  pub t : TailParts
  pub first : AreApplied old mid t
  pub full : t.size ≡ 2 ^ 64 - 1

-- why no tail is returned: a read failed; memory ran out; there is an entry that no desk writes there; or
-- there are too many to count their bytes
abbrev pub HasNoTail : {R : Type 0} → Option (List ℕ) → TailFault R → Type 0
HasNoTail old (Unread error) = ⊤
HasNoTail old OutOfMemory = ⊤
HasNoTail old NoRecord = IsNoRecord old
HasNoTail old Endless = IsEndless old

-- the result of reading the next entry: it is applied; or this follows the last whole entry; or an error
abbrev pub StepsTail : {R : Type 0} → Result (Option TailEnd) (TailFault R) → Option (List ℕ)
    → Option (List ℕ) → TailParts → TailParts → Type 0
StepsTail (Ok None) old new s t = IsApplied old new s t
StepsTail (Ok (Some ended)) old new s t = EndsIn ended old × (t ≡ s)
StepsTail (Err (Unread error)) old new s t = ⊤
StepsTail (Err OutOfMemory) old new s t = ⊤
StepsTail (Err NoRecord) old new s t = IsNotApplied old new s
StepsTail (Err Endless) old new s t = ⊥
