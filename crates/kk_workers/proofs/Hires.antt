-- Workers one after another.
use Rattle.std.proofs.Common.{◌≡◌, ℕ, zero, suc, ◌+◌, ◌<◌, List, [], ◌∷◌, ◌++◌, length, map, take, drop, get_or, refl, sym, ap, ◌∙◌, arith}
use Rattle.std.specs.List.{remove}
use Rattle.std.proofs.lemmas.List.{map-append, take_more, get_or-drop, length-take-le}
use Rattle.kk_table.specs.Table.{TableView}
use Rattle.kk_workers.specs.Worker.{WorkerView, new_worker}
use Rattle.kk_workers.specs.Runs.{pass_of, hired}

pub remove-drop : {X : Type 0} (xs : List X) (i : ℕ) → remove (drop i xs) 0 ≡ drop (i + 1) xs
remove-drop [] zero = refl
remove-drop [] (suc i) = ap (λ (n : ℕ). drop n []) {x = suc (i + 1)} {y = suc i + 1} (omega arith)
remove-drop (x ∷ xs) zero = refl
remove-drop (x ∷ xs) (suc i) = remove-drop xs i ∙ ap (λ (n : ℕ). drop n (x ∷ xs)) {x = suc (i + 1)} {y = suc i + 1} (omega arith)

first-drop : {X : Type 0} (xs : List X) (i : ℕ) (x : X) → x ≡ get_or (drop i xs) 0 x → x ≡ get_or xs i x
first-drop xs i x is = is ∙ get_or-drop i xs 0 x ∙ ap (λ (n : ℕ). get_or xs n x) (omega arith)

take-first : {X : Type 0} (xs : List X) (i : ℕ) (x : X) → i < length xs → x ≡ get_or (drop i xs) 0 x → take (i + 1) xs ≡ take i xs ++ x ∷ []
take-first xs i x inside is = take_more xs i x inside ∙ ap (λ y. take i xs ++ y ∷ []) (sym (first-drop xs i x is))

-- the first of those that are left, where each is like the others
pub first-all : {X Y : Type 0} (f : X → Y) (y : Y) (xs : List X) (i : ℕ) (x : X) → ((k : ℕ) (d : X) → k < length xs → f (get_or xs k d) ≡ y) → i < length xs → x ≡ get_or (drop i xs) 0 x → f x ≡ y
first-all f y xs i x all inside is = ap f (first-drop xs i x is) ∙ all i x inside

hired-push : {G : Type 0} (table : TableView) (n k : ℕ) (xs : List G) (x : G) → hired table n k (xs ++ x ∷ []) ≡ hired table n k xs ++ new_worker n (pass_of table (k + length xs)) x ∷ []
unfolding hired
hired-push table n k [] x = ap (λ (m : ℕ). new_worker n (pass_of table m) x ∷ []) (omega arith)
hired-push table n k (y ∷ ys) x =
    ap (λ ws. new_worker n (pass_of table k) y ∷ ws) (hired-push table n (k + 1) ys x
    ∙ ap (λ (m : ℕ). hired table n (k + 1) ys ++ new_worker n (pass_of table m) x ∷ []) (omega arith))

pub length-hired : {G : Type 0} (table : TableView) (n k : ℕ) (xs : List G) → length (hired table n k xs) ≡ length xs
unfolding hired
length-hired table n k [] = refl
length-hired table n k (x ∷ xs) = ap suc (length-hired table n (k + 1) xs)

pub hired-first : {G : Type 0} (table : TableView) (n : ℕ) (xs : List G) (i : ℕ) (x : G) → i < length xs → x ≡ get_or (drop i xs) 0 x
    → hired table n 0 (take (i + 1) xs) ≡ hired table n 0 (take i xs) ++ new_worker n (pass_of table i) x ∷ []
hired-first table n xs i x inside is =
    ap (hired table n 0) (take-first xs i x inside is) ∙ hired-push table n 0 (take i xs) x
    ∙ ap (λ (m : ℕ). hired table n 0 (take i xs) ++ new_worker n (pass_of table m) x ∷ []) (omega (arith, length-take-le i xs (omega (arith, inside))))

pub hired_none : {G : Type 0} (table : TableView) (n k : ℕ) → ◌≡◌ {A = List (WorkerView G)} [] (hired table n k [])
unfolding hired
hired_none table n k = refl

pub hired-at : {G : Type 0} (table : TableView) (n k : ℕ) (gates : List G) (i : ℕ) (d : G) (w : WorkerView G) → i < length gates
    → get_or (hired table n k gates) i w ≡ new_worker n (pass_of table (k + i)) (get_or gates i d)
unfolding hired
hired-at table n k [] i d w h = absurd (omega (arith, h))
hired-at table n k (x ∷ xs) zero d w h = ap (λ (m : ℕ). new_worker n (pass_of table m) x) (omega arith)
hired-at table n k (x ∷ xs) (suc i) d w h = hired-at table n (k + 1) xs i d w (omega (arith, h)) ∙ ap (λ (m : ℕ). new_worker n (pass_of table m) (get_or xs i d)) (omega arith)

-- what is told of one more
pub map-next : {X Y : Type 0} (f : X → Y) (xs : List X) (i : ℕ) (x : X) (ys : List Y) (y : Y) → i < length xs → x ≡ get_or (drop i xs) 0 x → ys ≡ map f (take i xs) → y ≡ f x
    → ys ++ y ∷ [] ≡ map f (take (i + 1) xs)
map-next f xs i x ys y near is before same = (λ k. before k ++ same k ∷ []) ∙ sym (ap (map f) (take-first xs i x near is) ∙ map-append f (take i xs) (x ∷ []))
