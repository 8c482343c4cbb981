-- Before and after all workers have worked.
use Rattle.std.proofs.Common.{◌≡◌, ℕ, suc, ◌+◌, ◌<◌, Option, List, [], ◌∷◌, length, map, drop, get_or, refl, sym, ap, ◌∙◌, subst, arith}
use Rattle.std.specs.Prelude.{All}
use Rattle.std.specs.declared.alloc.Global.{Global}
use Rattle.std.specs.declared.vec.Vec.{Vec}
use Rattle.std.proofs.lemmas.List.Elements.{All-nil, All-cons}
use Rattle.kk_outside.specs.Gate.{GateTold}
use Rattle.kk_code.specs.Codeword.{IsCode}
use Rattle.kk_code.specs.Ticket.{TicketFields, generations}
use Rattle.kk_code.specs.TicketText.{IsTicket}
use Rattle.kk_table.specs.Table.{TableView}
use Rattle.kk_workers.specs.declared.plan.Plan.{Plan}
use Rattle.kk_workers.specs.Worker.{WorkerView, new_worker}
use Rattle.kk_workers.specs.Runs.{pass_of, hired, lists_in, IsReady, Did}
use Rattle.kk_workers.specs.Receiving.{IsDone}
use Rattle.kk_workers.proofs.Hires.{length-hired, hired-at}

-- the parameters of a ticket are those of a code
pub ticket_code : (t : TicketFields) → IsTicket t → IsCode t.code
ticket_code t is = record {
  field = record {
    modulus = record { at_least_one = omega (arith, is.code.m_low); low_below = is.code.low };
    irreducible = is.irreducible;
  };
  l_high = is.code.l_high;
  k_high = is.code.k_high;
}

pub map_same : {P R X Y : Type 0} (f : P → R → X → Y) {p p' : P} {r r' : R} {xs xs' : List X} → p ≡ p' → r ≡ r' → xs ≡ xs' → map (f p r) xs ≡ map (f p' r') xs'
map_same f same there places = λ i. map (f (same i) (there i)) (places i)

-- each worker has kept room for so many answers
pub rooms_long : {G : Type 0} (n : ℕ) (ws : List (WorkerView G)) (rooms : List (Vec (Option (Option (List ℕ))) Global)) → lists_in rooms ≡ map (λ (w : WorkerView G). w.answers) ws
    → ((k : ℕ) (d : WorkerView G) → k < length ws → length (get_or ws k d).answers ≡ n) → All (λ room. length room.items ≡ n) rooms
rooms_long n [] [] same long = All-nil (λ room. length room.items ≡ n)
rooms_long n (w ∷ ws) [] same long = All-nil (λ room. length room.items ≡ n)
rooms_long n [] (room ∷ rooms) same long = absurd (omega (arith, ap length same))
rooms_long n (w ∷ ws) (room ∷ rooms) same long = All-cons (λ room. length room.items ≡ n) room rooms
    (ap (λ (l : List (List (Option (Option (List ℕ))))). length (get_or l 0 room.items)) same ∙ long 0 w (omega arith))
    (rooms_long n ws rooms (ap (drop 1) same) (λ k d near. long (suc k) d (omega (arith, near))))

new_is_ready : {G : Type 0} (table : TableView) (t : TicketFields) (k : ℕ) (gate : G) → IsReady table t (new_worker (generations t) (pass_of table k) gate)
new_is_ready table t k gate = record { table = refl; no_calls = refl; no_inserts = refl; no_answers = refl }

did_done : {G : Type 0} (told : G → GateTold) (t : TicketFields) (plan : Plan) (table : TableView) (k : ℕ) (gate : G) (w w' : WorkerView G)
    → w ≡ new_worker (generations t) (pass_of table k) gate → Did told t plan w w' → IsDone told t plan k gate w'
did_done told t plan table k gate w w' is did =
    let d : Did told t plan (new_worker (generations t) (pass_of table k) gate) w' = subst (λ x. Did told t plan x w') is did in
    record { number = d.same.number; note = d.same.note; worked = d.worked; totals = d.totals; answers = d.answers; all_answers = d.all_answers; cause = d.cause }

module _ {G : Type 0} (table : TableView) (t : TicketFields) (gates : List G) (ws : List (WorkerView G)) (is : ws ≡ hired table (generations t) 0 gates) where
  pub all_hired : length ws ≡ length gates
  all_hired = ap (λ (x : List (WorkerView G)). length x) is ∙ length-hired table (generations t) 0 gates

  hired_as : (k : ℕ) (gate : G) (d : WorkerView G) → k < length gates → get_or ws k d ≡ new_worker (generations t) (pass_of table k) (get_or gates k gate)
  hired_as k gate d near =
      ap (λ (x : List (WorkerView G)). get_or x k d) is ∙ hired-at table (generations t) 0 gates k gate d near
      ∙ ap (λ (n : ℕ). new_worker (generations t) (pass_of table n) (get_or gates k gate)) {x = 0 + k} {y = k} (omega arith)

  pub ready : (k : ℕ) (d : WorkerView G) → k < length ws → IsReady table t (get_or ws k d)
  ready k d near = subst (IsReady table t) (sym (hired_as k d.gate d (omega (arith, near, all_hired)))) (new_is_ready table t k (get_or gates k d.gate))

  pub done : (told : G → GateTold) (plan : Plan) (ws' : List (WorkerView G)) → ((i : ℕ) (d : WorkerView G) → i < length ws → Did told t plan (get_or ws i d) (get_or ws' i d))
      → (k : ℕ) (gate : G) (d : WorkerView G) → k < length gates → IsDone told t plan k (get_or gates k gate) (get_or ws' k d)
  done told plan ws' each k gate d near = did_done told t plan table k (get_or gates k gate) (get_or ws k d) (get_or ws' k d) (hired_as k gate d near) (each k d (omega (arith, near, all_hired)))
