use Rattle.std.proofs.Common.{◌≡◌, ◌<◌, ◌+◌, ◌++◌, ◌∷◌, [], ℕ, List, length, map, refl, sym, ap, ◌∙◌, subst, arith, length-append}
use Rattle.std.specs.List.{range_with_len}
use Rattle.std.proofs.lemmas.List.{length-map}
use Rattle.std.proofs.lemmas.List.FromFn.{length-map-range_with_len}
use Rattle.kk_table.specs.declared.view.Known.{Known}
use Rattle.kk_table.specs.declared.view.Shape.{Shape}
use Rattle.kk_table.specs.Founder.{FounderView}
use Rattle.kk_table.specs.Rule.{numbers_of}
use Rattle.kk_workers.specs.Worker.{WorkerView}
use Rattle.kk_workers.specs.Receiving.{IsReceived}
use Rattle.kk_workers.specs.Runs.{ReceiverView, hired, lists_in, closing_answer, Closes}
use Rattle.kk_workers.proofs.Stations.{all_hired, ready, done, map_same, rooms_long, ticket_code}
use Rattle.kk_workers.proofs.receiver.Receiver.gather.Goals as goal

pub run_all-requires-clause-ready : goal.run_all-requires-clause-ready
run_all-requires-clause-ready g c κs within =
    let table = c.self.inside.table in
    let is = c.hire.ensures.workers ∙ ap (λ (n : ℕ). hired table n 0 c.args.gates.now.items) c.generations-generations.ensures.count in
    ready table c.self.inside.ticket c.args.gates.now.items c.hire.new.workers.items is

pub dismiss-totals-requires-clause-passes : goal.dismiss-totals-requires-clause-passes
dismiss-totals-requires-clause-passes g c κs within = λ k d near.
    let table = c.self.inside.table in
    let is = c.hire.ensures.workers ∙ ap (λ (n : ℕ). hired table n 0 c.args.gates.now.items) c.generations-generations.ensures.count in
    let near' : k < length c.hire.new.workers.items = omega (arith, near, c.run_all.ensures.len) in
    (c.run_all.ensures.each k d near').same.table ∙ (ready table c.self.inside.ticket c.args.gates.now.items c.hire.new.workers.items is k d near').table

pub dismiss-totals-requires-clause-few : goal.dismiss-totals-requires-clause-few
dismiss-totals-requires-clause-few g c κs within =
    let table = c.self.inside.table in
    let is = c.hire.ensures.workers ∙ ap (λ (n : ℕ). hired table n 0 c.args.gates.now.items) c.generations-generations.ensures.count in
    omega (arith, c.run_all.ensures.len, all_hired table c.self.inside.ticket c.args.gates.now.items c.hire.new.workers.items is, c.self.invariant.few, c.requires.gates, ap (λ (v : ReceiverView). v.gates) c.self.view_is)

pub dismiss-totals-requires-clause-few_inserts : goal.dismiss-totals-requires-clause-few_inserts
dismiss-totals-requires-clause-few_inserts g c κs within = λ k d near.
    let near' : k < length c.hire.new.workers.items = omega (arith, near, c.run_all.ensures.len) in
    let did = c.run_all.ensures.each k d near' in
    (did.few, did.totals.within)

pub dismiss-totals-requires-clause-room : goal.dismiss-totals-requires-clause-room
dismiss-totals-requires-clause-room g c κs within =
    let table = c.self.inside.table in
    let is = c.hire.ensures.workers ∙ ap (λ (n : ℕ). hired table n 0 c.args.gates.now.items) c.generations-generations.ensures.count in
    let count_is : length c.args.gates.now.items ≡ length c.self.inside.rooms.items = c.requires.gates ∙ sym (ap (λ (v : ReceiverView). v.gates) c.self.view_is) in
    let long = all_hired table c.self.inside.ticket c.args.gates.now.items c.hire.new.workers.items is in (
      omega (arith, c.run_all.ensures.len, long, c.hire.ensures.gates_room, c.args.gates.now.ok.0, c.args.gates.now.ok.1),
      omega (arith, c.run_all.ensures.len, long, c.self.invariant.no_counts.1, count_is),
      omega (arith, c.run_all.ensures.len, long, c.hire.ensures.rooms_room, c.self.inside.rooms.ok.0, c.self.inside.rooms.ok.1, count_is),
    )

pub unreachable-requires-in_default-finish : goal.unreachable-requires-in_default-finish
unreachable-requires-in_default-finish g c =
    let table = c.self.inside.table in
    let is = c.hire.ensures.workers ∙ ap (λ (n : ℕ). hired table n 0 c.args.gates.now.items) c.generations-generations.ensures.count in
    let long = all_hired table c.self.inside.ticket c.args.gates.now.items c.hire.new.workers.items is in
    let known : WorkerView g.row.G.Denot → Known = λ w. w.pass.known in
    let records : c.take_back.new.self.records ≡ map known c.run_all.new.workers.items ++ c.close_all.new.pass.known ∷ [] =
    ap (λ (f : FounderView). f.records) c.take_back.ensures
    ∙ ap (λ (f : FounderView). f.records ++ c.close_all.new.pass.known ∷ []) (c.in-Ok.ensures.founder)
    ∙ ap (λ (f : FounderView). f.records ++ c.close_all.new.pass.known ∷ []) c.dismiss-totals.ensures.founder in
    let given : c.take_back.new.self.given ≡ c.hire.new.founder.given + 1 =
    ap (λ (f : FounderView). f.given) c.take_back.ensures ∙ ap (λ (f : FounderView). f.given) c.in-Ok.ensures.founder ∙ ap (λ (f : FounderView). f.given + 1) c.dismiss-totals.ensures.founder in
    let hired_given = ap (λ (f : FounderView). f.given) c.hire.ensures.founder in
    let out : length c.take_back.new.self.records < c.take_back.new.self.given = c.in_default-finish.ensures.held_if_out.0 refl in
    omega (
      arith,
      out,
      given,
      hired_given,
      ap (λ (rs : List Known). length rs) records,
      length-append (map known c.run_all.new.workers.items) (c.close_all.new.pass.known ∷ []),
      length-map c.run_all.new.workers.items known,
      c.run_all.ensures.len,
      long,
    )

pub invariant_of-result : goal.invariant_of-result
invariant_of-result g c =
    ap length c.decode_all.ensures ∙ length-map-range_with_len _ 0 c.generations-generations.result ∙ c.generations-generations.ensures.count
    ∙ sym (ap (λ (s : Shape). s.generations) (c.in-Ok-finish.ensures.logs.0 ∙ c.self.invariant.shape))

pub returns : goal.returns
returns g c =
    let t = c.self.inside.ticket in
    let table = c.self.inside.table in
    let gates = c.args.gates.now.items in
    let count = c.generations-generations.ensures.count in
    let is = c.hire.ensures.workers ∙ ap (λ (n : ℕ). hired table n 0 gates) count in
    let long = all_hired table t gates c.hire.new.workers.items is in
    let known : WorkerView g.row.G.Denot → Known = λ w. w.pass.known in
    let closing = c.close_all.new.pass.known in
    let same = c.close_all.ensures.pass in
    let dismissed = ap (λ (f : FounderView). f.records) c.dismiss-totals.ensures.founder in
    subst (λ (v : ReceiverView). IsReceived g.G.Gate.told v.ticket c.args.plan.now gates c.dismiss-totals.new.gates.items
    (record { logs = c.in-Ok-finish.logs; answers = c.decode_all.new.answers.items; gates = c.dismiss-totals.new.counts.items; totals = c.dismiss-totals.result })) c.self.view_is
    (record {
      shape = c.in-Ok-finish.ensures.logs.0 ∙ c.self.invariant.shape;
      workers = c.run_all.new.workers.items;
      count = c.run_all.ensures.len ∙ long;
      done = done table t gates c.hire.new.workers.items is g.G.Gate.told c.args.plan.now c.run_all.new.workers.items c.run_all.ensures.each;
      gates_are = c.dismiss-totals.ensures.gates;
      counts_are = c.dismiss-totals.ensures.counts;
      totals_are = c.dismiss-totals.ensures.totals;
      closing = closing;
      records_are = c.in-Ok-finish.ensures.logs.1 ∙ ap (λ (f : FounderView). f.records) c.take_back.ensures
          ∙ ap (λ (f : FounderView). f.records ++ closing ∷ []) c.in-Ok.ensures.founder ∙ ap (λ (rs : List Known). rs ++ closing ∷ []) dismissed;
      number = same.number ∙ ap (λ (k : Known). k.number) c.in-Ok.ensures.pass.1 ∙ ap (λ (f : FounderView). f.given + 1) c.dismiss-totals.ensures.founder ∙ ap (λ (f : FounderView). f.given + 1) c.hire.ensures.founder;
      note = same.note ∙ ap (λ (k : Known). k.note) c.in-Ok.ensures.pass.1 ∙ ap numbers_of dismissed;
      closes = subst (λ (n : ℕ). Closes (map (λ (w : WorkerView g.row.G.Denot). w.answers) c.run_all.new.workers.items) n closing) count
          (subst (λ rooms. Closes rooms c.generations-generations.result closing) (ap lists_in c.deref.ensures.value ∙ c.dismiss-totals.ensures.kept) c.close_all.ensures.closes);
      answers = c.decode_all.ensures
          ∙ map_same (λ p rooms k. closing_answer p rooms closing k) c.code.ensures.code (ap lists_in c.deref-2.ensures.value ∙ c.dismiss-totals.ensures.kept) (ap (range_with_len 0) count);
      code = ticket_code t c.code.ensures.ticket;
    })

pub close_all-requires-clause-kept : goal.close_all-requires-clause-kept
close_all-requires-clause-kept g c =
    rooms_long c.generations-generations.result c.run_all.new.workers.items c.deref.result.now (ap lists_in c.deref.ensures.value ∙ c.dismiss-totals.ensures.kept)
    (λ k d near. (c.run_all.ensures.each k d (omega (arith, near, c.run_all.ensures.len))).all_answers ∙ sym c.generations-generations.ensures.count)

pub decode_all-requires-clause-kept : goal.decode_all-requires-clause-kept
decode_all-requires-clause-kept g c =
    rooms_long c.generations-generations.result c.run_all.new.workers.items c.deref-2.result.now (ap lists_in c.deref-2.ensures.value ∙ c.dismiss-totals.ensures.kept)
    (λ k d near. (c.run_all.ensures.each k d (omega (arith, near, c.run_all.ensures.len))).all_answers ∙ sym c.generations-generations.ensures.count)
