-- A file read by its length.
use Rattle.std.proofs.Common.{◌≡◌, ℕ, ◌+◌, List, [], ◌∷◌, ◌++◌, length, take, drop, Bool, true, false, eqb, ltb, Option, Some, None, Result, Ok, Err, inl, inr, refl, sym, ap, subst, ◌∙◌, arith}
use Rattle.std.specs.Prelude.{◌↔◌, IfSome}
use Rattle.std.proofs.lemmas.Bool.{cases_lt}
use Rattle.std.proofs.lemmas.Bool.Decides.{nat_tests}
use Rattle.std.proofs.lemmas.Option.{same_Some}
use Rattle.std.proofs.lemmas.List.{length-take, take_all, take-take, take-append-le}
use Rattle.kk_outside.specs.Change.{Change}
use Rattle.kk_outside.specs.Source.{AtEnd, SourceTold, FillsFrom, Took, bytes_read}
use Rattle.kk_outside.proofs.Known.{filled, filled_short, bytes_read-took}
use Rattle.kk_sender.specs.declared.fault.FileFault.{FileFault}
use Rattle.kk_sender.specs.declared.fault.FileFault.TheVariants.{Read, Length}
use Rattle.kk_sender.specs.declared.fault.SendFault.{SendFault}
use Rattle.kk_sender.specs.declared.fault.SendFault.TheVariants as send
use Rattle.kk_sender.specs.Faults.{as_send_fault}
use Rattle.kk_sender.specs.LengthRule.{wrong_length, ReadsToLength, FailsWithinLength, LeavesAfterLength}

-- the room of a file was filled, or the source ended before
pub record IsRead (len got : ℕ) (room : List ℕ) (source : Change SourceTold) : Type 0 where
  pub bytes : bytes_read source ≡ take got room
  pub count : length (bytes_read source) ≡ got
  pub read : ReadsToLength len source
  pub left : IfSome source.old.left (λ bytes. LeavesAfterLength len bytes source)

leaves : {E : Type 0} (len got : ℕ) (room : List ℕ) (source : Change SourceTold) (left : Option (List ℕ)) → left ≡ source.old.left → length room ≡ len + 1 → bytes_read source ≡ take got room
    → FillsFrom {E = E} source (Ok got) room → IfSome left (λ xs. take got room ≡ take (length room) xs) → IfSome left (λ xs. LeavesAfterLength len xs source)
leaves len got room source None same sized bytes fills given = tt
leaves len got room source (Some xs) same sized bytes fills given = record {
  taken = bytes ∙ given ∙ ap (λ n. take n xs) sized;
  left = rw sized at fills.after;
}

pub IsRead-filled : {E : Type 0} (len got : ℕ) (room : List ℕ) (source : Change SourceTold) → length room ≡ len + 1 → FillsFrom {E = E} source (Ok got) room → IsRead len got room source
IsRead-filled {E} len got room source sized fills =
    elim (cases_lt got (length room)) [
      | inl short ↦
          let took : Took (take got room) (AtEnd ∷ []) source = filled_short source got room fills short in
          let bytes : bytes_read source ≡ take got room = bytes_read-took (take got room) (AtEnd ∷ []) source took refl in
          let count : length (bytes_read source) ≡ got = ap length bytes ∙ omega (arith, length-take got room, short) in
          record {
            bytes = bytes;
            count = count;
            read = record { last = AtEnd ∷ []; took = subst (λ l. Took l (AtEnd ∷ []) source) (sym bytes) took; ended = omega (arith, count, short, sized) };
            left = leaves {E = E} len got room source source.old.left refl sized bytes fills fills.given;
          }
      | inr full ↦
          let same : got ≡ length room = omega (arith, full, fills.bounded) in
          let took : Took room [] source = filled source got room fills same in
          let all : take got room ≡ room = take_all got room full in
          let bytes : bytes_read source ≡ take got room = bytes_read-took room [] source took refl ∙ sym all in
          let count : length (bytes_read source) ≡ got = ap length (bytes ∙ all) ∙ sym same in
          record {
            bytes = bytes;
            count = count;
            read = record { last = []; took = subst (λ l. Took l [] source) (sym (bytes ∙ all)) took; ended = omega (arith, count, same, sized) };
            left = leaves {E = E} len got room source source.old.left refl sized bytes fills fills.given;
          }
    ]

-- a read failed before
pub FailsWithinLength-lost : {E : Type 0} (len : ℕ) (room : List ℕ) (source : Change SourceTold) (e : E) → length room ≡ len + 1 → FillsFrom {E = E} source (Err e) room → FailsWithinLength len source
FailsWithinLength-lost len room source e sized fills =
    let lost = fills.lost in
    let bytes = bytes_read-took lost.0 _ source lost.2 refl in
    record { took = rw (← bytes) at lost.2; before = omega (arith, ap length bytes, lost.1, sized) }

-- ---- what is answered

same_pair : (a c : ℕ) (b d : Bool) → a ≡ c → b ≡ d → ◌≡◌ {A = ℕ × Bool} (a, b) (c, d)
same_pair a c b d first second = cc

pub wrong-told : (len n got : ℕ) (more : Bool) → n ≡ got → (got ≡ len → ⊥) → more ≡ ltb len got → wrong_length len n ≡ Some (got, more)
wrong-told len n got more same other is =
    let no : eqb n len ≡ false = grind (arith, nat_tests) in
    rw no (ap Some (same_pair n got (ltb len n) more same (ap (ltb len) same ∙ sym is)))

pub right-told : (len n : ℕ) → n ≡ len → wrong_length len n ≡ None
right-told len n same = let yes : eqb n len ≡ true = grind (arith, nat_tests) in rw yes refl

pub wrong_is : {T : Type 0} (len n got : ℕ) (more : Bool) → wrong_length len n ≡ Some (got, more) → (g : ℕ) (m : Bool) → (◌≡◌ {A = Result T FileFault} (Err (Length got more)) (Err (Length g m))) ↔ (wrong_length len n ≡ Some (g, m))
wrong_is {T} len n got more told g m = (λ e. told ∙ cc e, λ e. ap (λ (p : ℕ × Bool). let r : Result T FileFault = Err (Length p.0 p.1) in r) (same_Some (got, more) (g, m) (sym told ∙ e)))

pub right_is : {T : Type 0} (len n : ℕ) (x : T) → n ≡ len → (g : ℕ) (m : Bool) → (◌≡◌ {A = Result T FileFault} (Ok x) (Err (Length g m))) ↔ (wrong_length len n ≡ Some (g, m))
right_is {T} len n x same g m =
    let told = right-told len n same in
    (λ e. absurd (cc e), λ e. absurd (cc (sym told ∙ e)))

-- ---- the same for a sender

-- the file in the room that was lent and is back
pub the_file : (len cap : ℕ) (room items back file : List ℕ) → back ≡ take cap (room ++ drop (length room) items) → cap ≡ len + 1 → length room ≡ len + 1 → take len room ≡ file → take len back ≡ file
the_file len cap room items back file is all sized at =
    ap (take len) is ∙ take-take len cap (room ++ drop (length room) items) (omega (arith, all))
    ∙ take-append-le len room (drop (length room) items) (omega (arith, sized)) ∙ at

apart : (g : ℕ) (m : Bool) → ◌≡◌ {A = Result (Unit {0}) FileFault} (Err (Length g m)) (Err Read) → ⊥
apart g m e = cc

send_length : {T : Type 0} (g : ℕ) (m : Bool) (got : ℕ) (more : Bool) → ◌≡◌ {A = Result T SendFault} (Err (send.Length g m)) (Err (send.Length got more)) → ◌≡◌ {A = Result (Unit {0}) FileFault} (Err (Length g m)) (Err (Length got more))
send_length g m got more e = cc

file_length : {T : Type 0} (g : ℕ) (m : Bool) (got : ℕ) (more : Bool) → ◌≡◌ {A = Result (Unit {0}) FileFault} (Err (Length g m)) (Err (Length got more)) → ◌≡◌ {A = Result T SendFault} (Err (send.Length g m)) (Err (send.Length got more))
file_length g m got more e = cc

-- why the file isn't read is why it isn't sent
pub wrong_sent : {T : Type 0} (fault : FileFault) (r : Result T SendFault) (P : Type 0) (got : ℕ) (more : Bool) → r ≡ Err (as_send_fault fault) → (r ≡ Err send.Read → ⊥)
    → (((◌≡◌ {A = Result (Unit {0}) FileFault} (Err fault) (Err Read)) → ⊥) → ((◌≡◌ {A = Result (Unit {0}) FileFault} (Err fault) (Err (Length got more))) ↔ P))
    → ((r ≡ Err (send.Length got more)) ↔ P)
wrong_sent {T} Read r P got more is other told = absurd (other is)
wrong_sent {T} (Length g m) r P got more is other told =
    let same = told (λ e. absurd (apart g m e)) in
    (λ e. same.0 (send_length g m got more (sym is ∙ e)), λ p. is ∙ file_length g m got more (same.1 p))
