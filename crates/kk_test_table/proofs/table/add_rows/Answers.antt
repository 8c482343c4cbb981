use Rattle.std.proofs.Common.{◌≡◌, ℕ, ◌<◌, ◌^◌, true, false, List, [], ◌∷◌, ◌++◌, get_or, take, All, sym, ap, ◌∙◌, subst, ⊎_elim, true≢false, arith}
use Rattle.std.proofs.lemmas.List.{take_all}
use Rattle.std.proofs.lemmas.List.Elements.{All-push}
use Rattle.kk_rows.specs.declared.rows.Row.{Row}
use Rattle.kk_rows.specs.Rows.{numbers}
use Rattle.kk_rows.specs.Span.{in_span}
use Rattle.kk_rows.proofs.Spans.{in_span-append_left, in_span-push_itself}
use Rattle.kk_rows.proofs.RowLists.{numbers_each, numbers-take_more}
use Rattle.kk_machine.specs.declared.log.Log.{Log}
use Rattle.kk_machine.proofs.Logs.{true_or_false}
use Rattle.kk_table.specs.declared.view.Known.{Known}
use Rattle.kk_table.specs.declared.answers.Inserted.{Inserted}
use Rattle.kk_table.specs.declared.answers.Inserted.TheVariants.{Innovative, Redundant, Late}
use Rattle.kk_table.specs.Rule.{sight}
use Rattle.kk_table.specs.Pass.{GoesOn}
use Rattle.kk_table.specs.Answers.{InsertTold}
use Rattle.kk_test_table.proofs.table.add_rows.Goals as goal

told_spanned : (row : ℕ) (s : Log) (r : Inserted) → s.closed ≡ false → InsertTold row s r → in_span s.rows row ≡ true
told_spanned row s (Innovative rank) unshut told = subst (λ (x : List ℕ). in_span x row ≡ true) (sym told.1.1) (in_span-push_itself told.1.0 row)
told_spanned row s Redundant unshut told = told
told_spanned row s Late unshut told = absurd (true≢false (sym told ∙ unshut))

row_added : (g row : ℕ) (k k' : Known) (r : Inserted) (rows : List ℕ) → GoesOn g k k' → InsertTold row (sight k' g) r
    → ((sight k g).closed ≡ false → All (λ x. in_span (sight k g).rows x ≡ true) rows)
    → (sight k' g).closed ≡ false → All (λ x. in_span (sight k' g).rows x ≡ true) (rows ++ row ∷ [])
row_added g row k k' r rows goes told before unshut =
    let was : (sight k g).closed ≡ false = ⊎_elim
    (λ (shut : (sight k g).closed ≡ true). absurd (true≢false (sym (ap (λ (x : Log). x.closed) (goes.closed shut) ∙ shut) ∙ unshut)))
    (λ (unclosed : (sight k g).closed ≡ false). unclosed)
    (true_or_false (sight k g).closed) in
    All-push (λ (x : ℕ). in_span (sight k' g).rows x ≡ true) rows row
    (λ i d h. subst (λ (xs : List ℕ). in_span xs (get_or rows i d) ≡ true) (sym goes.grows.1) (in_span-append_left (sight k g).rows goes.grows.0 (get_or rows i d) (before was i d h)))
    (told_spanned row (sight k' g) r unshut told)

pub insert-requires-clause-row : goal.insert-requires-clause-row
insert-requires-clause-row c = numbers_each (λ r. r < 2 ^ c.args.table.now.shape.width) c.args.rows.now c.loop-row.row-index c.requires.rows_fit (omega arith)

pub loop-row-preserved : goal.loop-row-preserved
loop-row-preserved c =
    let i = c.loop-row.row-index in
    let next = numbers-take_more c.args.rows.now i (omega arith) in
    record {
      table = c.insert.ensures.table ∙ c.loop-row.invariant.table;
      spanned = λ unshut. subst (All (λ r. in_span (sight c.insert.new.pass.known 0).rows r ≡ true)) (sym next)
          (row_added 0 (get_or c.args.rows.now i record { 0 = 0 }).0 c.loop-row.pass.known c.insert.new.pass.known c.insert.result (numbers (take i c.args.rows.now))
          c.insert.ensures.goes_on c.insert.ensures.told c.loop-row.invariant.spanned unshut);
    }

pub returns-clause-spanned : goal.returns-clause-spanned
returns-clause-spanned c unshut =
    subst (λ (l : List Row). All (λ r. in_span (sight c.loop-row.pass.known 0).rows r ≡ true) (numbers l)) (take_all c.loop-row.row-index c.args.rows.now c.loop-row-test.false)
    (c.loop-row.invariant.spanned unshut)
