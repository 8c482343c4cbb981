-- Where clap finds no fault in the words, it takes them: the two tests of a simple command say the same, step by step.
use Rattle.std.proofs.Common.{◌≡◌, ◌&&◌, ◌||◌, codes, ◌≤◌, ℕ, zero, suc, Bool, true, false, cond, not, refl, sym, ap, arith, List, [], ◌∷◌, length, Option, Some, None, nat_lt, true≢false, le-leb, eqb-true, drop}
use Rattle.std.specs.Prelude.{is_some, nat_le, ◌==◌, slice_get, encode_utf8}
use Rattle.std.proofs.lemmas.Bool.{ltb-false}
use Rattle.std.specs.List.{list_all, list_any}
use Rattle.std.specs.Str.{bytes_eq, chars}
use Rattle.clap.specs.Lexer.{long_of, short_of}
use Rattle.std.specs.Option.{option_map_or}
use Rattle.clap.specs.Facts.{parser_of_value, unwrap_or_range}
use Rattle.clap.specs.ValueTests.{accepts}
use Rattle.clap.specs.Walk.{Held, Names, Row, Rule, Step, Text, Walk, action_of, arg_by_id, arg_by_index, arg_by_long, arg_by_short, attached_value, is_pending, takes_several, takes_values, has_row, most_values, nothing_held, reacted, settled, value, values_or_missing, walk, walk_from, walked, word_met, subcommand_met, finished}
use Rattle.clap.specs.Walk.{next, trailing, subcommand}
use Rattle.clap.specs.Simple.{Shape, built, filled_from}
use Rattle.kk_forms.specs.Form.{app_with}
use Rattle.clap.specs.Takes.{action_passes, bundle_passes, bundle_step_passes, count_passes, default_passes, flag_word_passes, flags_pass, is_given, level_passes, long_passes, option_passes, other_passes, positional_passes, react_passes, set_passes, settle_passes, short_passes, step_passes, turn_passes, use_passes, walk_passes, word_passes}
use Rattle.clap.specs.Faults.{action_fault, bundle_fault, bundle_step_fault, check_fault, count_fault, defaults_fault, flag_word_fault, flags_fault, level_fault, long_fault, option_fault, other_fault, positional_fault, react_fault, set_fault, settle_fault, short_fault, step_fault, turn_fault, use_fault, walk_fault, word_fault}
use Rattle.clap.specs.Kinds.{Kinds, or_else, range_kinds, values_kinds}
use Rattle.clap.specs.declared.builder.action.ArgAction.{ArgAction}
use Rattle.clap.specs.declared.builder.action.ArgAction.TheVariants as action
use Rattle.clap.specs.declared.error.kind.ErrorKind.{ErrorKind}
use Rattle.clap.specs.declared.error.kind.ErrorKind.TheVariants as kind
use Rattle.clap.specs.declared.builder.value_parser.ValueParser.{ValueParser}

-- no list with a kind in it is empty
abbrev has_kind : Kinds → Bool
has_kind [] = false
has_kind (k ∷ ks) = true

some_kind : {X : Type 0} (k : ErrorKind) (ks : Kinds) → k ∷ ks ≡ [] → X
some_kind k ks e = absurd (true≢false (ap has_kind e))

-- where no kind comes of two steps, none comes of either
first_none : (a b : Kinds) → or_else a b ≡ [] → a ≡ []
first_none [] b e = refl
first_none (k ∷ ks) b e = e

second_none : (a b : Kinds) → or_else a b ≡ [] → b ≡ []
second_none [] b e = e
second_none (k ∷ ks) b e = some_kind k ks e

both : (a b : Bool) → a ≡ true → b ≡ true → (a && b) ≡ true
both true b p q = q
both false b p q = absurd (true≢false (sym p))

-- a test that fails by a kind
passed : (b : Bool) (k : ErrorKind) → cond b [] (k ∷ []) ≡ [] → b ≡ true
passed true k e = refl
passed false k e = some_kind k [] e

not_failed : (b : Bool) (k : ErrorKind) → cond b (k ∷ []) [] ≡ [] → b ≡ false
not_failed true k e = some_kind k [] e
not_failed false k e = refl

-- ---- one use of an argument

values_taken : (ignore_case : Bool) (p : ValueParser) (vs : List Text) → values_kinds ignore_case p vs ≡ [] → list_all (accepts ignore_case p) vs ≡ true
values_taken ignore_case p [] e = refl
values_taken ignore_case p (v ∷ vs) e =
    both _ _ (passed _ _ (first_none _ _ e)) (values_taken ignore_case p vs (second_none _ _ e))

count_taken : (a : Rule) (vs : List Text) (rows : List Row) → count_fault a vs rows ≡ [] → count_passes a vs rows ≡ true
count_taken a [] rows e = passed _ _ e
count_taken a (v ∷ vs) rows e = values_taken a.ignore_case (parser_of_value a.parser) (v ∷ vs) e

repeat_taken : (has again : Bool) (k : ErrorKind) → cond (has && not again) (k ∷ []) [] ≡ [] → (not has || again) ≡ true
repeat_taken true true k e = refl
repeat_taken true false k e = some_kind k [] e
repeat_taken false again k e = refl

set_taken : (again : Bool) (a : Rule) (vs : List Text) (rows : List Row) → set_fault again a vs rows ≡ [] → set_passes again a vs rows ≡ true
set_taken again a vs rows e =
    both _ _ (repeat_taken (has_row a.id rows) again _ (first_none _ _ e)) (values_taken a.ignore_case (parser_of_value a.parser) vs (second_none _ _ e))

action_taken : (x : ArgAction) (again : Bool) (a : Rule) (vs : List Text) (rows : List Row) → action_fault x again a vs rows ≡ [] → action_passes x again a vs rows ≡ true
action_taken action.Set again a vs rows e = set_taken again a vs rows e
action_taken action.SetTrue again a vs rows e = set_taken again a vs rows e
action_taken action.SetFalse again a vs rows e = set_taken again a vs rows e
action_taken action.Append again a vs rows e = values_taken a.ignore_case (parser_of_value a.parser) vs e
action_taken action.Count again a vs rows e = count_taken a vs rows e
action_taken action.Help again a vs rows e = some_kind _ _ e
action_taken action.HelpShort again a vs rows e = some_kind _ _ e
action_taken action.HelpLong again a vs rows e = some_kind _ _ e
action_taken action.Version again a vs rows e = some_kind _ _ e

range_taken : (least most n : ℕ) → range_kinds least most n ≡ [] → (nat_le least n ≡ true) × (nat_le n most ≡ true)
range_taken least most n e = go (nat_lt 0 least && n == 0) e
  where
    -- the least number of values is there, and the most is not passed
    within : (few many : Bool) → nat_lt n least ≡ few → nat_lt most n ≡ many
        → cond few (kind.TooFewValues ∷ []) (cond many (kind.TooManyValues ∷ []) []) ≡ [] → (nat_le least n ≡ true) × (nat_le n most ≡ true)
    within true many p q h = some_kind _ _ h
    within false true p q h = some_kind _ _ h
    within false false p q h =
        let low : least ≤ n = omega (arith, ltb-false n least p) in
        let high : n ≤ most = omega (arith, ltb-false most n q) in
        (le-leb least n low, le-leb n most high)

    exact : (same : Bool) → (least == most) ≡ same
        → cond same (cond (least == n) [] (kind.WrongNumberOfValues ∷ [])) (cond (nat_lt n least) (kind.TooFewValues ∷ []) (cond (nat_lt most n) (kind.TooManyValues ∷ []) [])) ≡ []
        → (nat_le least n ≡ true) × (nat_le n most ≡ true)
    exact true p h =
        let a : least ≡ most = eqb-true least most p in
        let b : least ≡ n = eqb-true least n (passed (least == n) _ h) in
        (le-leb least n (omega arith), le-leb n most (omega arith))
    exact false p h = within (nat_lt n least) (nat_lt most n) refl refl h

    go : (none : Bool)
        → cond none (kind.InvalidValue ∷ []) (cond (least == most) (cond (least == n) [] (kind.WrongNumberOfValues ∷ [])) (cond (nat_lt n least) (kind.TooFewValues ∷ []) (cond (nat_lt most n) (kind.TooManyValues ∷ []) []))) ≡ []
        → (nat_le least n ≡ true) × (nat_le n most ≡ true)
    go true h = some_kind _ _ h
    go false h = exact (least == most) refl h

use_taken : (again : Bool) (a : Rule) (vs : List Text) (rows : List Row) → use_fault again a vs rows ≡ [] → use_passes again a vs rows ≡ true
use_taken again a vs rows e =
    let range = range_taken (unwrap_or_range a.range).start_inclusive (most_values a) (length vs) (first_none _ _ e) in
    both _ _ range.0 (both _ _ range.1 (action_taken (action_of a) again a (values_or_missing a vs) rows (second_none _ _ e)))

-- ---- one word

module _ (c : List Rule) (again : Bool) where
  settle_taken : (h : Held) → settle_fault c again h ≡ [] → settle_passes c again h ≡ true
  settle_taken h e = go h.pending e
    where
      found : (o : Option Rule) (vs : List Text) → option_map_or (λ a. use_fault again a vs h.rows) o [] ≡ [] → option_map_or (λ a. use_passes again a vs h.rows) o true ≡ true
      found None vs e = refl
      found (Some a) vs e = use_taken again a vs h.rows e

      go : (p : Option (Text × List Text)) → option_map_or (λ p. option_map_or (λ a. use_fault again a p.1 h.rows) (arg_by_id c p.0) []) p [] ≡ []
          → option_map_or (λ p. option_map_or (λ a. use_passes again a p.1 h.rows) (arg_by_id c p.0) true) p true ≡ true
      go None e = refl
      go (Some p) e = found (arg_by_id c p.0) p.1 e

  react_taken : (a : Rule) (vs : List Text) (h : Held) → react_fault c again a vs h ≡ [] → react_passes c again a vs h ≡ true
  react_taken a vs h e = both _ _ (settle_taken h (first_none _ _ e)) (use_taken again a vs (settled c h).rows (second_none _ _ e))

  option_taken : (a : Rule) (v : Option Text) (h : Held) → option_fault c again a v h ≡ [] → option_passes c again a v h ≡ true
  option_taken a (Some v) h e = react_taken a (v ∷ []) h e
  option_taken a None h e = settle_taken h e

  long_taken : (o : Option Rule) (v : Option Text) (h : Held) → long_fault c again o v h ≡ [] → long_passes c again o v h ≡ true
  long_taken None v h e = some_kind _ _ e
  long_taken (Some a) v h e = go (takes_values a) v e
    where
      go : (b : Bool) (v : Option Text) → cond b (option_fault c again a v h) (cond (is_some v) (kind.TooManyValues ∷ []) (react_fault c again a [] h)) ≡ []
          → cond b (option_passes c again a v h) (not (is_some v) && react_passes c again a [] h) ≡ true
      go true v e = option_taken a v h e
      go false (Some v) e = some_kind _ _ e
      go false None e = react_taken a [] h e

  short_taken : (o : Option Rule) (rest : Text) (h : Held) (fault : Held → Kinds) (pass : Held → Bool) → ((g : Held) → fault g ≡ [] → pass g ≡ true)
      → short_fault c again o rest h fault ≡ [] → short_passes c again o rest h pass ≡ true
  short_taken None rest h fault pass below e = some_kind _ _ e
  short_taken (Some a) rest h fault pass below e = go (takes_values a) e
    where
      go : (b : Bool) → cond b (option_fault c again a (attached_value rest) h) (or_else (react_fault c again a [] h) (fault (reacted c a [] h))) ≡ []
          → cond b (option_passes c again a (attached_value rest) h) (react_passes c again a [] h && pass (reacted c a [] h)) ≡ true
      go true e = option_taken a (attached_value rest) h e
      go false e = both _ _ (react_taken a [] h (first_none _ _ e)) (below (reacted c a [] h) (second_none _ _ e))

  step_flag : (o : Option ℕ) (flags : Text) (skip : ℕ) (h : Held) (fault : Text → ℕ → Held → Kinds) (pass : Text → ℕ → Held → Bool)
      → ((t : Text) (n : ℕ) (g : Held) → fault t n g ≡ [] → pass t n g ≡ true)
      → bundle_step_fault c again o flags skip h fault ≡ [] → bundle_step_passes c again o flags skip h pass ≡ true
  step_flag None flags skip h fault pass below e = refl
  step_flag (Some x) flags zero h fault pass below e =
      let rest = drop (length (encode_utf8 x)) flags in
      short_taken (arg_by_short c x) rest h (fault rest 0) (pass rest 0) (below rest 0) e
  step_flag (Some x) flags (suc skip) h fault pass below e = below (drop (length (encode_utf8 x)) flags) skip h e

  flags_taken : (k : ℕ) (flags : Text) (skip : ℕ) (h : Held) → flags_fault c again k flags skip h ≡ [] → flags_pass c again k flags skip h ≡ true
  unfolding flags_fault flags_pass
  flags_taken zero flags skip h e = refl
  flags_taken (suc k) flags skip h e =
      step_flag (slice_get (chars flags) 0) flags skip h (flags_fault c again k) (flags_pass c again k) (λ t n g. flags_taken k t n g) e

  flag_word_taken : (o : Option (Text × Option Text)) (word : Text) (h : Held) → flag_word_fault c again o word h ≡ [] → flag_word_passes c again o word h ≡ true
  flag_word_taken (Some p) word h e = long_taken (arg_by_long c p.0) p.1 h e
  flag_word_taken None word h e = go (short_of word) e
    where
      go : (o : Option Text) → option_map_or (λ flags. bundle_fault c again flags h) o [] ≡ [] → option_map_or (λ flags. bundle_passes c again flags h) o true ≡ true
      go None e = refl
      go (Some flags) e = flags_taken (length flags) flags h.skip (record h { skip = 0 }) e

  positional_taken : (a : Rule) (h : Held) → positional_fault c again a h ≡ [] → positional_passes c again a h ≡ true
  positional_taken a h e = go (is_pending a h.pending && takes_several a) e
    where
      go : (b : Bool) → cond b [] (settle_fault c again h) ≡ [] → (b || settle_passes c again h) ≡ true
      go true e = refl
      go false e = settle_taken h e

-- ---- the walk over the words

word_taken : (s : Shape) (o : Option Text) (word : Text) (h : Held) → other_fault s o word h ≡ [] → other_passes s o word h ≡ true
word_taken s (Some name) word h e = go (bytes_eq name (codes "help")) s.disable_help_subcommand e
  where
    go : (help off : Bool) → cond (help && not off) (kind.DisplayHelp ∷ kind.InvalidSubcommand ∷ []) [] ≡ [] → (not help || off) ≡ true
    go true true e = refl
    go true false e = some_kind _ _ e
    go false off e = refl
word_taken s None word h e = go (bytes_eq word (45 ∷ 45 ∷ [])) e
  where
    go : (b : Bool) → cond b [] (flag_word_fault s.rules s.args_override_self (long_of word) word h) ≡ []
        → (b || flag_word_passes s.rules s.args_override_self (long_of word) word h) ≡ true
    go true e = refl
    go false e = flag_word_taken s.rules s.args_override_self (long_of word) word h e

step_taken : (s : Shape) (position : ℕ) (h : Held) (step : Step) → step_fault s position h step ≡ [] → step_passes s position h step ≡ true
step_taken s position h value e = go (arg_by_index s.rules position) s.is_leaf e
  where
    go : (o : Option Rule) (leaf : Bool)
        → option_map_or (λ a. positional_fault s.rules s.args_override_self a h) o (cond leaf (kind.UnknownArgument ∷ []) (kind.UnknownArgument ∷ kind.InvalidSubcommand ∷ [])) ≡ []
        → option_map_or (λ a. positional_passes s.rules s.args_override_self a h) o false ≡ true
    go None true e = some_kind _ _ e
    go None false e = some_kind _ _ e
    go (Some a) leaf e = positional_taken s.rules s.args_override_self a h e
step_taken s position h (next waiting) e = refl
step_taken s position h (trailing p) e = refl
step_taken s position h (subcommand name) e = refl

turn_taken : (s : Shape) (names : Names) (w : Walk) (word : Text) → turn_fault s names w word ≡ [] → turn_passes s names w word ≡ true
turn_taken s names w word e = go (is_some w.stopped) e
  where
    met : Held × Step
    met = word_met s.rules names w.is_trailing w.waiting w.position word w.held

    other : (b : Bool) (o : Option Text) → cond b [] (other_fault s o word w.held) ≡ [] → (b || other_passes s o word w.held) ≡ true
    other true o e = refl
    other false o e = word_taken s o word w.held e

    go : (b : Bool) → cond b [] (or_else (word_fault s names w.is_trailing w.waiting word w.held) (step_fault s w.position met.0 met.1)) ≡ []
        → (b || (word_passes s names w.is_trailing w.waiting word w.held && step_passes s w.position met.0 met.1)) ≡ true
    go true e = refl
    go false e = both _ _ (other w.is_trailing (subcommand_met names w.waiting word) (first_none _ _ e)) (step_taken s w.position met.0 met.1 (second_none _ _ e))

walk_taken : (s : Shape) (names : Names) (w : Walk) (words : List Text) → walk_fault s names w words ≡ [] → walk_passes s names w words ≡ true
unfolding walk_fault walk_passes
walk_taken s names w [] e = refl
walk_taken s names w (word ∷ rest) e =
    both _ _ (turn_taken s names w word (first_none _ _ e)) (walk_taken s names (walked s.rules names w word) rest (second_none _ _ e))

-- ---- after the walk

-- each required argument is there, where none is missing
one_required : (required given others all : Bool) → (others ≡ false → all ≡ true) → ((required && not given) || others) ≡ false → ((not required || given) && all) ≡ true
one_required true true others all below e = below e
one_required true false others all below e = absurd (true≢false e)
one_required false given others all below e = below e

required_taken : (rows : List Row) (rules : List Rule) → list_any (λ a. a.required && not (is_given a.id rows)) rules ≡ false
    → list_all (λ a. not a.required || is_given a.id rows) rules ≡ true
required_taken rows [] e = refl
required_taken rows (a ∷ rules) e = one_required a.required (is_given a.id rows) _ _ (required_taken rows rules) e

-- one level of a command with these rules
pub level_taken : (name : Text) (rules : List Rule) (words : List Text)
    → list_all (λ a. a.is_free) (filled_from 1 rules) ≡ true → list_all default_passes (filled_from 1 rules) ≡ true
    → level_fault (built (app_with name rules)).top [] nothing_held words false [] ≡ []
    → level_passes (built (app_with name rules)).top [] nothing_held words false ≡ true
level_taken name rules words free defaults e =
    let s = (built (app_with name rules)).top in
    let end = (walk s.rules [] nothing_held words).held in
    let after = second_none _ _ e in
    let last = second_none (defaults_fault (settled s.rules end).rows s.rules) (check_fault s (finished s.rules end) false) (second_none _ _ after) in
    let required = required_taken (finished s.rules end) s.rules (not_failed _ _ last) in
    both _ _ (walk_taken s [] (walk_from nothing_held) words (first_none _ _ e))
    (both _ _ (settle_taken s.rules false end (first_none _ _ after)) (both _ _ defaults (both _ _ free required)))
