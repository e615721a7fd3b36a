-- Each entry of the pair table is the rules' value.
use Rattle.std.proofs.Common.{◌≡◌, ℕ, ◌<◌, Bool, true, nat_lt, List, [], ◌∷◌, ◌++◌, map, length, get_or, refl, ap, sym, ◌∙◌, arith, ltb-true}
use Rattle.std.proofs.lemmas.List.{get_or-map, length-map}
use Rattle.std.proofs.lemmas.List.Folds.{list_all_at}
use Rattle.std.specs.List.{list_all}
use Rattle.bg_types.proofs.Interface.{two_cases}
use Rattle.bg_types.specs.Classes.{is_nonspacing}
use Rattle.bg_types.specs.declared.class.Lb.TheVariants.{Sp}
use Rattle.line_break.specs.declared.status.Break.{Break}
use Rattle.line_break.specs.declared.status.Break.TheVariants.{May, Must}
use Rattle.line_break.specs.declared.status_table.TheConstants.{STATUSES}
use Rattle.line_break.specs.declared.state_table.TheConstants.{STATES}
use Rattle.line_break.specs.Classes.{one_of, resolved}
use Rattle.line_break.specs.Items.{Item, items}
use Rattle.line_break.specs.Context.{Before, before, after}
use Rattle.line_break.specs.Rules.{first_rule, rules, point_rules, item_rules, late_rules, mandatory, explicit, joiners, enclosing, spaces, quotations, contingent, hyphens, ideographs, numbers, syllables, letters, parentheses, pairs}
use Rattle.line_break.specs.States.{reduced, narrow, marked, texts, columns, IsBehind, IsColumn}
use Rattle.line_break.proofs.Contexts.{past, before-past}
use Rattle.line_break.proofs.Reduced.{rule-reduced, past-reduced}

-- what stands before a boundary behind each text
unfoldable states : List Before
states = map (λ text. reduced (before text)) texts

status_row : Before → List Break
status_row b = map (λ p. first_rule rules May b (after p)) columns

state_row : Before → List Before
state_row b = map (λ p. reduced (past b p)) columns

of_numbers : List Before → List ℕ → List Before
of_numbers bs row = map (λ n. get_or bs n (before [])) row

-- entry by entry
statuses-are : map status_row states ≡ STATUSES
unfolding states status_row marked texts columns resolved is_nonspacing one_of items before reduced first_rule rules point_rules item_rules late_rules mandatory explicit joiners enclosing spaces quotations contingent hyphens ideographs numbers syllables letters parentheses pairs
statuses-are = refl

states-are : map (of_numbers states) STATES ≡ map state_row states
unfolding states state_row of_numbers marked texts columns resolved is_nonspacing one_of items before reduced
states-are = refl

states-within : list_all (λ row. list_all (λ n. nat_lt n 80) row) STATES ≡ true
states-within = refl

length-texts : length texts ≡ 80
unfolding texts marked
length-texts = refl

length-columns : length columns ≡ 45
unfolding columns
length-columns = refl

length-states : length states ≡ 80
unfolding states
length-states = length-map texts (λ text. reduced (before text)) ∙ length-texts

length-STATES : length STATES ≡ 80
length-STATES = refl

all-at : {X : Type 0} (p : X → Bool) (xs : List X) (i : ℕ) (d : X) → i < length xs → list_all p xs ≡ true → p (get_or xs i d) ≡ true
all-at p xs i d lt h = two_cases (p (get_or xs i d)) (λ e. e) (λ e. absurd (let f = sym h ∙ list_all_at p xs i d lt e in cc))

-- the text of a state
module _ (n : ℕ) (within : n < 80) where
  state-is : get_or states n (before []) ≡ reduced (before (get_or texts n []))
  unfolding states
  state-is = get_or-map (λ text. reduced (before text)) texts n [] (before []) (let e = length-texts in omega arith)

  row-of-statuses : get_or STATUSES n [] ≡ status_row (reduced (before (get_or texts n [])))
  row-of-statuses =
      ap (λ t. get_or t n []) (sym statuses-are) ∙ get_or-map status_row states n (before []) [] (let e = length-states in omega arith)
      ∙ ap status_row state-is

  row-of-states : of_numbers states (get_or STATES n []) ≡ state_row (reduced (before (get_or texts n [])))
  row-of-states =
      sym (get_or-map (of_numbers states) STATES n [] [] (let e = length-STATES in omega arith)) ∙ ap (λ t. get_or t n []) states-are
      ∙ get_or-map state_row states n (before []) [] (let e = length-states in omega arith) ∙ ap state_row state-is

  -- each row has an entry for each column
  length-row : length (get_or STATES n []) ≡ 45
  unfolding of_numbers state_row
  length-row = sym (length-map (get_or STATES n []) _) ∙ ap length row-of-states ∙ length-map columns _ ∙ length-columns

  module _ (m : ℕ) (inside : m < 45) where
    status-is : get_or (get_or STATUSES n []) m Must ≡ first_rule rules May (reduced (before (get_or texts n []))) (after (get_or columns m (narrow Sp)))
    unfolding status_row
    status-is =
        ap (λ row. get_or row m Must) row-of-statuses
        ∙ get_or-map (λ p. first_rule rules May (reduced (before (get_or texts n []))) (after p)) columns m (narrow Sp) Must (let e = length-columns in omega arith)

    next-is : get_or states (get_or (get_or STATES n []) m 0) (before []) ≡ reduced (past (reduced (before (get_or texts n []))) (get_or columns m (narrow Sp)))
    unfolding of_numbers state_row
    next-is =
        sym (get_or-map (λ k. get_or states k (before [])) (get_or STATES n []) m 0 (before []) (let e = length-row in omega arith))
        ∙ ap (λ row. get_or row m (before [])) row-of-states
        ∙ get_or-map (λ p. reduced (past (reduced (before (get_or texts n []))) p)) columns m (narrow Sp) (before []) (let e = length-columns in omega arith)

    next-within : get_or (get_or STATES n []) m 0 < 80
    next-within =
        let row = all-at (λ row. list_all (λ k. nat_lt k 80) row) STATES n [] (let e = length-STATES in omega arith) states-within in
        ltb-true (get_or (get_or STATES n []) m 0) 80 (all-at (λ k. nat_lt k 80) (get_or STATES n []) m 0 (let e = length-row in omega arith) row)

-- one code point further
module _ (front : List Item) (n : ℕ) (b : IsBehind front n) (p : Item) (m : ℕ) (k : IsColumn p m) where
  pub status-at : get_or (get_or STATUSES n []) m Must ≡ first_rule rules May (before front) (after p)
  status-at =
      status-is n b.within m k.within
      ∙ ap (λ x. first_rule rules May x (after (get_or columns m (narrow Sp)))) b.same
      ∙ ap (λ q. first_rule rules May (reduced (before front)) (after q)) k.same ∙ rule-reduced (before front) p

  pub IsBehind-next : IsBehind (front ++ p ∷ []) (get_or (get_or STATES n []) m 0)
  IsBehind-next = record {
    within = next-within n b.within m k.within;
    same =
        sym (state-is _ (next-within n b.within m k.within)) ∙ next-is n b.within m k.within
        ∙ ap (λ x. reduced (past x (get_or columns m (narrow Sp)))) b.same
        ∙ ap (λ q. reduced (past (reduced (before front)) q)) k.same ∙ past-reduced (before front) p
        ∙ ap reduced (sym (before-past front p));
  }
