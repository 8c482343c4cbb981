-- An argument that is required and was taken has a value: each row of the matches has one, and numbers where it is a number.
use Rattle.std.proofs.Common.{◌≡◌, ◌∙◌, ◌&&◌, ◌||◌, ◌<◌, ℕ, zero, suc, Bool, true, false, not, cond, refl, sym, ap, subst, arith, eqb-true, List, [], ◌∷◌, ◌++◌, length, Option, Some, None, true≢false, drop}
use Rattle.std.specs.Prelude.{◌^◌, find, fold, nat_le, is_some, encode_utf8, slice_get, unwrap_or, option_map, option_and_then}
use Rattle.std.specs.List.{list_all}
use Rattle.std.specs.Option.{option_map_or}
use Rattle.std.specs.Str.{bytes_eq, chars}
use Rattle.std.specs.Str.Parse.{digits_value, without_leading_plus}
use Rattle.std.proofs.lemmas.List.Folds.{list_all-append}
use Rattle.std.proofs.lemmas.Slice.Eq.{bytes_eq-Decides}
use Rattle.clap.specs.Lexer.{long_of, short_of}
use Rattle.clap.specs.Facts.{explicit_source, parser_of_value, unwrap_or_range}
use Rattle.clap.specs.Walk.{Held, Names, Outcome, Row, Rule, Step, Text, Waiting, Walk, action_of, after_flag, after_step, all_of, arg_by_id, arg_by_index, arg_by_long, arg_by_short, at_row, attached_value, bundle_met, bundle_step, default_rows, first_of, flag_met, has_row, is_empty, is_pending, long_met, long_or_other, more_values, most_values, nothing_held, option_met, option_word, plain_word, reacted, reading_by, rows_after, settled, settled_rows, short_met, short_or_plain, subcommand_met, subcommand_or_other, takes_several, takes_values, to_positional, used, used_as, used_by_id, walk, walk_from, walked, walked_from, with_default, with_values, without, word_met}
use Rattle.clap.specs.Walk.{done, waits, plain, refused, idle, option, positional, next, trailing, subcommand, value}
use Rattle.clap.specs.Simple.{Shape}
use Rattle.clap.specs.Takes.{bundle_passes, bundle_step_passes, flag_word_passes, flags_pass, is_given, action_passes, values_pass, level_passes, long_passes, option_passes, other_passes, positional_passes, react_passes, settle_passes, short_passes, step_passes, turn_passes, use_passes, walk_passes, word_passes}
use Rattle.clap.specs.declared.builder.action.ArgAction.{ArgAction}
use Rattle.clap.specs.declared.builder.action.ArgAction.TheVariants as action
use Rattle.clap.specs.ValueTests.{accepts}
use Rattle.clap.specs.declared.builder.value_parser.Reading.{Reading}
use Rattle.clap.specs.declared.builder.value_parser.ValueParser.{ValueParser}
use Rattle.clap.specs.declared.builder.value_parser.ValueParser.TheVariants as parser
use Rattle.clap.specs.declared.parser.matches.ValueSource.{ValueSource}
use Rattle.clap.specs.declared.parser.matches.ValueSource.TheVariants.{CommandLine}
use Rattle.clap.proofs.ValueTestLemmas.{accepts-Accepts, Accepts-accepts}
use Rattle.clap.proofs.WalkLemmas.{both}
use Rattle.kk_forms.specs.Form.{unsigned_64}
use Rattle.kk_forms.specs.Request.{number_read}

abbrev pub has_some : List Text → Bool
has_some [] = false
has_some (x ∷ xs) = true

pub and : (a b : Bool) → a ≡ true → b ≡ true → (a && b) ≡ true
and true b p q = q
and false b p q = absurd (true≢false (sym p))

-- for the ids of arguments that are numbers, whichever those are
module _ (is_number_id : Text → Bool) where
  -- these are values of an argument of this id: some, and numbers where it is a number
  abbrev fits : Text → List Text → Bool
  fits id vs = has_some vs && (not (is_number_id id) || list_all (accepts false unsigned_64) vs)

  abbrev is_filled : Row → Bool
  is_filled r = fits r.id r.values

  -- each row has a value, and numbers where it is one of a number
  abbrev pub filled : List Row → Bool
  filled rows = list_all is_filled rows

  abbrev pub reads_numbers : ValueParser → Bool
  reads_numbers (parser.Unsigned low high) = true
  reads_numbers other = false

  -- a use of the argument has a value
  abbrev wants_some : Rule → Bool
  wants_some a = not (nat_le (unwrap_or_range a.range).start_inclusive 0)

  -- a use of the argument has a value, which is a number where its id is one of a number, and nothing stands for no use
  abbrev pub wants_value : Rule → Bool
  wants_value a = wants_some a && (is_empty a.defaults && (not (is_number_id a.id) || reads_numbers (parser_of_value a.parser)))

  -- ---- values

  -- what a reader of numbers takes is a number
  numbers_read : (ignore_case : Bool) (p : ValueParser) (vs : List Text) → reads_numbers p ≡ true → list_all (accepts ignore_case p) vs ≡ true
      → list_all (accepts false unsigned_64) vs ≡ true
  numbers_read ignore_case p [] reads e = refl
  numbers_read ignore_case p (v ∷ vs) reads e =
      let here = both (accepts ignore_case p v) _ e in
      and _ _ (one p reads here.0) (numbers_read ignore_case p vs reads here.1)
    where
      one : (p : ValueParser) → reads_numbers p ≡ true → accepts ignore_case p v ≡ true → accepts false unsigned_64 v ≡ true
      one (parser.Unsigned low high) reads e =
          let number = accepts-Accepts ignore_case (parser.Unsigned low high) v e in
          let small : digits_value 10 (without_leading_plus v) < 2 ^ 64 = number.1 in
          Accepts-accepts false unsigned_64 v (number.0, small, omega arith, omega (arith, small))
      one parser.String reads e = absurd (true≢false (sym reads))
      one parser.Falsey reads e = absurd (true≢false (sym reads))
      one parser.NonEmptyString reads e = absurd (true≢false (sym reads))
      one parser.Bool reads e = absurd (true≢false (sym reads))
      one parser.Boolish reads e = absurd (true≢false (sym reads))
      one (parser.Signed low high) reads e = absurd (true≢false (sym reads))
      one parser.Float reads e = absurd (true≢false (sym reads))
      one parser.Char reads e = absurd (true≢false (sym reads))
      one (parser.Names names) reads e = absurd (true≢false (sym reads))
      one (parser.Values values) reads e = absurd (true≢false (sym reads))

  -- the values of a use that passes are values of its argument
  passed_fit : (a : Rule) (v : Text) (vs : List Text) → wants_value a ≡ true → values_pass a (v ∷ vs) ≡ true → fits a.id (v ∷ vs) ≡ true
  passed_fit a v vs wants e = go (is_number_id a.id) (both (is_empty a.defaults) _ (both (wants_some a) _ wants).1).1
    where
      go : (b : Bool) → (not b || reads_numbers (parser_of_value a.parser)) ≡ true → (not b || list_all (accepts false unsigned_64) (v ∷ vs)) ≡ true
      go true reads = numbers_read a.ignore_case (parser_of_value a.parser) (v ∷ vs) reads e
      go false reads = refl

  -- ---- rows

  at_row_filled : (id : Text) (change : Row → List Row) (missing rows : List Row)
      → ((r : Row) → bytes_eq r.id id ≡ true → is_filled r ≡ true → filled (change r) ≡ true) → filled missing ≡ true → filled rows ≡ true
      → filled (at_row id change missing rows) ≡ true
  at_row_filled id change missing [] changes new old = new
  at_row_filled id change missing (r ∷ rs) changes new old =
      go (bytes_eq r.id id) refl (at_row_filled id change missing rs changes new (both (is_filled r) (filled rs) old).1)
    where
      go : (b : Bool) → bytes_eq r.id id ≡ b → filled (at_row id change missing rs) ≡ true → filled (cond b (change r ++ rs) (r ∷ at_row id change missing rs)) ≡ true
      go true is below = list_all-append is_filled (change r) rs
          ∙ and _ _ (changes r is (both (is_filled r) (filled rs) old).0) (both (is_filled r) (filled rs) old).1
      go false is below = and _ _ (both (is_filled r) (filled rs) old).0 below

  without_filled : (id : Text) (rows : List Row) → filled rows ≡ true → filled (without id rows) ≡ true
  without_filled id rows e = at_row_filled id (λ _. []) [] rows (λ r same here. refl) refl e

  more_filled : (xs ys : List Text) → has_some xs ≡ true → has_some (xs ++ ys) ≡ true
  more_filled [] ys e = absurd (true≢false (sym e))
  more_filled (x ∷ xs) ys e = refl

  more_fit : (id : Text) (xs ys : List Text) → fits id xs ≡ true → fits id ys ≡ true → fits id (xs ++ ys) ≡ true
  more_fit id xs ys old new =
      let before = both (has_some xs) _ old in
      let after = both (has_some ys) _ new in
      and _ _ (more_filled xs ys before.0) (go (is_number_id id) before.1 after.1)
    where
      go : (b : Bool) → (not b || list_all (accepts false unsigned_64) xs) ≡ true → (not b || list_all (accepts false unsigned_64) ys) ≡ true
          → (not b || list_all (accepts false unsigned_64) (xs ++ ys)) ≡ true
      go true old new = list_all-append (accepts false unsigned_64) xs ys ∙ and _ _ old new
      go false old new = refl

  with_values_filled : (id : Text) (how : Reading) (s : ValueSource) (vs : List Text) (rows : List Row) → fits id vs ≡ true → filled rows ≡ true
      → filled (with_values id how s vs rows) ≡ true
  with_values_filled id how s vs rows fit e =
      at_row_filled id (more_values s vs) _ rows
      (λ r same here. and _ _ (more_fit r.id r.values vs here (subst (λ t. fits t vs ≡ true) (sym ((bytes_eq-Decides r.id id).0 same)) fit)) refl)
      (and _ _ fit refl) e

  used_filled : (again : Bool) (a : Rule) (vs : List Text) (rows : List Row) → wants_value a ≡ true → use_passes again a vs rows ≡ true
      → filled rows ≡ true → filled (used a vs rows) ≡ true
  used_filled again a [] rows wants e old =
      absurd (true≢false (sym (both (wants_some a) _ wants).0 ∙ ap not (both (nat_le (unwrap_or_range a.range).start_inclusive 0) _ e).0))
  used_filled again a (v ∷ vs) rows wants e old =
      go (action_of a) (both (nat_le (length (v ∷ vs)) (most_values a)) _ (both (nat_le (unwrap_or_range a.range).start_inclusive (length (v ∷ vs))) _ e).1).1
    where
      replaced : values_pass a (v ∷ vs) ≡ true → filled (with_values a.id (reading_by a) CommandLine (v ∷ vs) (without a.id rows)) ≡ true
      replaced pass = with_values_filled a.id (reading_by a) CommandLine (v ∷ vs) (without a.id rows) (passed_fit a v vs wants pass) (without_filled a.id rows old)

      set : (not (has_row a.id rows) || again) && values_pass a (v ∷ vs) ≡ true → values_pass a (v ∷ vs) ≡ true
      set e = (both (not (has_row a.id rows) || again) _ e).1

      go : (x : ArgAction) → action_passes x again a (v ∷ vs) rows ≡ true → filled (used_as x a.id (reading_by a) (v ∷ vs) rows) ≡ true
      go action.Set e = replaced (set e)
      go action.SetTrue e = replaced (set e)
      go action.SetFalse e = replaced (set e)
      go action.Append e = with_values_filled a.id (reading_by a) CommandLine (v ∷ vs) rows (passed_fit a v vs wants e) old
      go action.Count e = replaced e
      go action.Help e = old
      go action.HelpShort e = old
      go action.HelpLong e = old
      go action.Version e = old

  -- the first argument with a property, where each wants a value
  first_wants : (p : Rule → Bool) (c : List Rule) → list_all wants_value c ≡ true → option_map_or wants_value (find p c) true ≡ true
  first_wants p [] e = refl
  first_wants p (a ∷ c) e = go (p a) (first_wants p c (both (wants_value a) _ e).1)
    where
      go : (b : Bool) → option_map_or wants_value (find p c) true ≡ true → option_map_or wants_value (cond b (Some a) (find p c)) true ≡ true
      go true below = (both (wants_value a) _ e).0
      go false below = below

  -- ---- one word

  module _ (c : List Rule) (again : Bool) (wants : list_all wants_value c ≡ true) where
    settled_filled : (h : Held) → settle_passes c again h ≡ true → filled h.rows ≡ true → filled (settled c h).rows ≡ true
    settled_filled h e old = go h.pending e
      where
        found : (o : Option Rule) (vs : List Text) → option_map_or wants_value o true ≡ true
            → option_map_or (λ a. use_passes again a vs h.rows) o true ≡ true → filled (used_by_id o vs h.rows) ≡ true
        found None vs wants e = old
        found (Some a) vs wants e = used_filled again a vs h.rows wants e old

        go : (p : Option (Text × List Text)) → option_map_or (λ p. option_map_or (λ a. use_passes again a p.1 h.rows) (arg_by_id c p.0) true) p true ≡ true
            → filled (settled_rows c p h.rows) ≡ true
        go None e = old
        go (Some p) e = found (arg_by_id c p.0) p.1 (first_wants _ c wants) e

    reacted_filled : (a : Rule) (vs : List Text) (h : Held) → wants_value a ≡ true → react_passes c again a vs h ≡ true → filled h.rows ≡ true
        → filled (reacted c a vs h).rows ≡ true
    reacted_filled a vs h one e old =
        let p = both (settle_passes c again h) _ e in
        used_filled again a vs (settled c h).rows one p.1 (settled_filled h p.0 old)

    option_filled : (a : Rule) (v : Option Text) (h : Held) → wants_value a ≡ true → option_passes c again a v h ≡ true → filled h.rows ≡ true
        → filled (option_met c a v h).0.rows ≡ true
    option_filled a (Some v) h one e old = reacted_filled a (v ∷ []) h one e old
    option_filled a None h one e old = settled_filled h e old

    long_filled : (o : Option Rule) (v : Option Text) (h : Held) → option_map_or wants_value o true ≡ true → long_passes c again o v h ≡ true
        → filled h.rows ≡ true → filled (long_met c o v h).0.rows ≡ true
    long_filled None v h one e old = old
    long_filled (Some a) v h one e old = go (takes_values a) v e
      where
        go : (b : Bool) (v : Option Text) → cond b (option_passes c again a v h) (not (is_some v) && react_passes c again a [] h) ≡ true
            → filled (cond b (option_met c a v h) (flag_met c a v h)).0.rows ≡ true
        go true v e = option_filled a v h one e old
        go false (Some v) e = old
        go false None e = reacted_filled a [] h one e old

    short_filled : (o : Option Rule) (rest : Text) (h : Held) (meets : Held → Held × Outcome) (pass : Held → Bool)
        → ((g : Held) → pass g ≡ true → filled g.rows ≡ true → filled (meets g).0.rows ≡ true)
        → option_map_or wants_value o true ≡ true → short_passes c again o rest h pass ≡ true → filled h.rows ≡ true
        → filled (short_met c o rest h meets).0.rows ≡ true
    short_filled None rest h meets pass below one e old = old
    short_filled (Some a) rest h meets pass below one e old = go (takes_values a) e
      where
        go : (b : Bool) → cond b (option_passes c again a (attached_value rest) h) (react_passes c again a [] h && pass (reacted c a [] h)) ≡ true
            → filled (cond b (option_met c a (attached_value rest) h) (meets (reacted c a [] h))).0.rows ≡ true
        go true e = option_filled a (attached_value rest) h one e old
        go false e =
            let p = both (react_passes c again a [] h) _ e in
            below (reacted c a [] h) p.1 (reacted_filled a [] h one p.0 old)

    step_filled : (o : Option ℕ) (flags : Text) (skip : ℕ) (so_far : Outcome) (h : Held)
        (meets : Text → ℕ → Outcome → Held → Held × Outcome) (pass : Text → ℕ → Held → Bool)
        → ((t : Text) (n : ℕ) (x : Outcome) (g : Held) → pass t n g ≡ true → filled g.rows ≡ true → filled (meets t n x g).0.rows ≡ true)
        → bundle_step_passes c again o flags skip h pass ≡ true → filled h.rows ≡ true
        → filled (bundle_step c o flags skip so_far h meets).0.rows ≡ true
    step_filled None flags skip so_far h meets pass below e old = old
    step_filled (Some x) flags zero so_far h meets pass below e old =
        let rest = drop (length (encode_utf8 x)) flags in
        short_filled (arg_by_short c x) rest h (meets rest 0 done) (pass rest 0) (below rest 0 done) (first_wants _ c wants) e old
    step_filled (Some x) flags (suc skip) so_far h meets pass below e old = below (drop (length (encode_utf8 x)) flags) skip so_far h e old

    bundle_filled : (k : ℕ) (flags : Text) (skip : ℕ) (so_far : Outcome) (h : Held) → flags_pass c again k flags skip h ≡ true → filled h.rows ≡ true
        → filled (bundle_met c k flags skip so_far h).0.rows ≡ true
    unfolding bundle_met flags_pass
    bundle_filled zero flags skip so_far h e old = old
    bundle_filled (suc k) flags skip so_far h e old =
        step_filled (slice_get (chars flags) 0) flags skip so_far h (bundle_met c k) (flags_pass c again k) (λ t n x g. bundle_filled k t n x g) e old

    plain_filled : (waiting : Waiting) (word : Text) (h : Held) → filled h.rows ≡ true → filled (plain_word c waiting word h).0.rows ≡ true
    plain_filled idle word h old = old
    plain_filled positional word h old = old
    plain_filled (option id) word h old = go (arg_by_id c id)
      where
        go : (o : Option Rule) → filled (option_word o id word h).0.rows ≡ true
        go None = old
        go (Some a) = old

    after_filled : (waiting : Waiting) (word : Text) (h : Held) (x : Outcome) → filled h.rows ≡ true → filled (after_flag c waiting word h x).0.rows ≡ true
    after_filled waiting word h done old = old
    after_filled waiting word h (waits id) old = old
    after_filled waiting word h plain old = plain_filled waiting word h old
    after_filled waiting word h refused old = plain_filled waiting word h old

    flag_word_filled : (o : Option (Text × Option Text)) (waiting : Waiting) (word : Text) (h : Held) → flag_word_passes c again o word h ≡ true
        → filled h.rows ≡ true → filled (long_or_other c waiting word o h).0.rows ≡ true
    flag_word_filled (Some p) waiting word h e old =
        let met = long_met c (arg_by_long c p.0) p.1 h in
        after_filled waiting word met.0 met.1 (long_filled (arg_by_long c p.0) p.1 h (first_wants _ c wants) e old)
    flag_word_filled None waiting word h e old = go (short_of word) e
      where
        go : (o : Option Text) → option_map_or (λ flags. bundle_passes c again flags h) o true ≡ true → filled (short_or_plain c waiting word o h).0.rows ≡ true
        go None e = plain_filled waiting word h old
        go (Some flags) e =
            let met = bundle_met c (length flags) flags h.skip plain (record h { skip = 0 }) in
            after_filled waiting word met.0 met.1 (bundle_filled (length flags) flags h.skip plain (record h { skip = 0 }) e old)

    positional_filled : (a : Rule) (h : Held) → positional_passes c again a h ≡ true → filled h.rows ≡ true
        → filled (cond (is_pending a h.pending && takes_several a) h (settled c h)).rows ≡ true
    positional_filled a h e old = go (is_pending a h.pending && takes_several a) e
      where
        go : (b : Bool) → (b || settle_passes c again h) ≡ true → filled (cond b h (settled c h)).rows ≡ true
        go true e = old
        go false e = settled_filled h e old

  -- ---- the walk over the words

  module _ (s : Shape) (wants : list_all wants_value s.rules ≡ true) where
    met_filled : (names : Names) (is_trailing : Bool) (waiting : Waiting) (position : ℕ) (word : Text) (h : Held) → word_passes s names is_trailing waiting word h ≡ true
        → filled h.rows ≡ true → filled (word_met s.rules names is_trailing waiting position word h).0.rows ≡ true
    met_filled names true waiting position word h e old = old
    met_filled names false waiting position word h e old = go (subcommand_met names waiting word) e
      where
        other : (b : Bool) → (b || flag_word_passes s.rules s.args_override_self (long_of word) word h) ≡ true
            → filled (cond b (h, trailing position) (long_or_other s.rules waiting word (long_of word) h)).0.rows ≡ true
        other true e = old
        other false e = flag_word_filled s.rules s.args_override_self wants (long_of word) waiting word h e old

        go : (o : Option Text) → other_passes s o word h ≡ true → filled (subcommand_or_other s.rules o waiting position word h).0.rows ≡ true
        go (Some name) e = old
        go None e = other (bytes_eq word (45 ∷ 45 ∷ [])) e

    after_step_filled : (word : Text) (w : Walk) (h : Held) (step : Step) → step_passes s w.position h step ≡ true → filled h.rows ≡ true
        → filled (after_step s.rules word w h step).held.rows ≡ true
    after_step_filled word w h (next waiting) e old = old
    after_step_filled word w h (trailing position) e old = old
    after_step_filled word w h (subcommand name) e old = old
    after_step_filled word w h value e old = go (arg_by_index s.rules w.position) e
      where
        go : (o : Option Rule) → option_map_or (λ a. positional_passes s.rules s.args_override_self a h) o false ≡ true
            → filled (to_positional s.rules o word w h).held.rows ≡ true
        go None e = old
        go (Some a) e = positional_filled s.rules s.args_override_self wants a h e old

    turn_filled : (names : Names) (w : Walk) (word : Text) → turn_passes s names w word ≡ true → filled w.held.rows ≡ true
        → filled (walked s.rules names w word).held.rows ≡ true
    unfolding walked
    turn_filled names w word e old = go w.stopped e
      where
        met : Held × Step
        met = word_met s.rules names w.is_trailing w.waiting w.position word w.held

        go : (o : Option (Text × List Text)) → (is_some o || (word_passes s names w.is_trailing w.waiting word w.held && step_passes s w.position met.0 met.1)) ≡ true
            → filled (walked_from s.rules names o w word).held.rows ≡ true
        go (Some p) e = old
        go None e =
            let p = both (word_passes s names w.is_trailing w.waiting word w.held) _ e in
            after_step_filled word w met.0 met.1 p.1 (met_filled names w.is_trailing w.waiting w.position word w.held p.0 old)

    walk_filled : (names : Names) (w : Walk) (words : List Text) → walk_passes s names w words ≡ true → filled w.held.rows ≡ true
        → filled (fold (walked s.rules names) w words).held.rows ≡ true
    unfolding walk_passes
    walk_filled names w [] e old = old
    walk_filled names w (word ∷ words) e old =
        let p = both (turn_passes s names w word) _ e in
        walk_filled names (walked s.rules names w word) words p.1 (turn_filled names w word p.0 old)

  -- ---- after the walk

  default_filled : (a : Rule) (rows : List Row) → wants_value a ≡ true → filled rows ≡ true → filled (with_default rows a) ≡ true
  default_filled a rows wants old = go (has_row a.id rows)
    where
      none : (vs : List Text) → is_empty vs ≡ true → filled (default_rows a.id (reading_by a) vs rows) ≡ true
      none [] e = old
      none (v ∷ vs) e = let some : length (v ∷ vs) ≡ 0 = eqb-true (length (v ∷ vs)) 0 e in absurd (omega (arith, some))

      go : (b : Bool) → filled (cond b rows (default_rows a.id (reading_by a) a.defaults rows)) ≡ true
      go true = old
      go false = none a.defaults (both (is_empty a.defaults) _ (both (wants_some a) _ wants).1).0

  defaults_filled : (c : List Rule) (rows : List Row) → list_all wants_value c ≡ true → filled rows ≡ true → filled (fold with_default rows c) ≡ true
  defaults_filled [] rows wants old = old
  defaults_filled (a ∷ c) rows wants old =
      let each = both (wants_value a) _ wants in
      defaults_filled c (with_default rows a) each.1 (default_filled a rows each.0 old)

  -- what one level of a parse that passes leaves: each row has a value, and what is required has a row
  pub level_filled : (s : Shape) (words : List Text) → list_all wants_value s.rules ≡ true → level_passes s [] nothing_held words false ≡ true
      → filled (rows_after s.rules [] words) ≡ true
  level_filled s words wants e =
      let end = (walk s.rules [] nothing_held words).held in
      let p = both (walk_passes s [] (walk_from nothing_held) words) _ e in
      let q = both (settle_passes s.rules s.args_override_self end) _ p.1 in
      defaults_filled s.rules (settled s.rules end).rows wants (settled_filled s.rules s.args_override_self wants end q.0 (walk_filled s wants [] (walk_from nothing_held) words p.0 refl))

  -- a row that is found has a value, and is one that was looked for
  row_filled : (p : Row → Bool) (rows : List Row) → filled rows ≡ true → option_map_or (λ r. p r && is_filled r) (find p rows) true ≡ true
  row_filled p [] e = refl
  row_filled p (r ∷ rows) e = go (p r) refl (row_filled p rows (both (is_filled r) _ e).1)
    where
      go : (b : Bool) → p r ≡ b → option_map_or (λ r. p r && is_filled r) (find p rows) true ≡ true
          → option_map_or (λ r. p r && is_filled r) (cond b (Some r) (find p rows)) true ≡ true
      go true is below = and _ _ is (both (is_filled r) _ e).0
      go false is below = below

  -- what is given has a value
  pub given_values : (id : Text) (rows : List Row) → filled rows ≡ true → is_given id rows ≡ true → has_some (unwrap_or (all_of id rows) []) ≡ true
  given_values id rows e is = go (find (λ r. bytes_eq r.id id) rows) (row_filled _ rows e) is
    where
      go : (o : Option Row) → option_map_or (λ r. bytes_eq r.id id && is_filled r) o true ≡ true → option_map_or (λ r. explicit_source r.source) o false ≡ true
          → has_some (unwrap_or (option_map (λ r. r.values) o) []) ≡ true
      go None e is = absurd (true≢false (sym is))
      go (Some r) e is = (both (has_some r.values) _ (both (bytes_eq r.id id) _ e).1).0

  pub given_first : (id : Text) (rows : List Row) → filled rows ≡ true → is_given id rows ≡ true → is_some (first_of id rows) ≡ true
  given_first id rows e is = go (find (λ r. bytes_eq r.id id) rows) (row_filled _ rows e) is
    where
      first : (vs : List Text) → has_some vs ≡ true → is_some (slice_get vs 0) ≡ true
      first [] e = absurd (true≢false (sym e))
      first (v ∷ vs) e = refl

      go : (o : Option Row) → option_map_or (λ r. bytes_eq r.id id && is_filled r) o true ≡ true → option_map_or (λ r. explicit_source r.source) o false ≡ true
          → is_some (option_and_then (λ r. slice_get r.values 0) o) ≡ true
      go None e is = absurd (true≢false (sym is))
      go (Some r) e is = first r.values (both (has_some r.values) _ (both (bytes_eq r.id id) _ e).1).0

  -- what is given of a number is one
  pub given_number : (id : Text) (rows : List Row) → filled rows ≡ true → is_number_id id ≡ true → is_given id rows ≡ true
      → is_some (option_and_then number_read (first_of id rows)) ≡ true
  given_number id rows e of_number is = go (find (λ r. bytes_eq r.id id) rows) (row_filled _ rows e) is
    where
      first : (vs : List Text) → has_some vs ≡ true → list_all (accepts false unsigned_64) vs ≡ true → is_some (option_and_then number_read (slice_get vs 0)) ≡ true
      first [] some e = absurd (true≢false (sym some))
      first (v ∷ vs) some e = rw (both (accepts false unsigned_64 v) _ e).0 refl

      read : (r : Row) → bytes_eq r.id id ≡ true → (not (is_number_id r.id) || list_all (accepts false unsigned_64) r.values) ≡ true
          → list_all (accepts false unsigned_64) r.values ≡ true
      read r same e =
          let number : is_number_id r.id ≡ true = ap is_number_id ((bytes_eq-Decides r.id id).0 same) ∙ of_number in
          sym (ap (λ b. not b || list_all (accepts false unsigned_64) r.values) number) ∙ e

      go : (o : Option Row) → option_map_or (λ r. bytes_eq r.id id && is_filled r) o true ≡ true → option_map_or (λ r. explicit_source r.source) o false ≡ true
          → is_some (option_and_then number_read (option_and_then (λ r. slice_get r.values 0) o)) ≡ true
      go None e is = absurd (true≢false (sym is))
      go (Some r) e is =
          let found = both (bytes_eq r.id id) _ e in
          let values = both (has_some r.values) _ found.1 in
          first r.values values.0 (read r found.0 values.1)
