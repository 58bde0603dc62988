-- The steps of a search.
use Rattle.xl_treap.proofs.Common.{◌+◌, ◌-◌, ◌<◌, ◌∙◌, ◌≡◌, add-zero, ap, arith, ended, List, loaded_before, loaded_times, refl, search_from, Searched, subst, suc, sym, Visit, visit_of, visited, zero, ℕ}
use Rattle.xl_treap.specs.declared.along.Search.{Search}
use Rattle.xl_treap.specs.declared.along.Search.TheVariants as search_end

pub from-none : (left : ℕ) (words : List ℕ) (key : ℕ) → search_from left words 0 key ≡ ended 0 search_end.Absent
unfolding search_from
from-none zero words key = refl
from-none (suc left) words key = refl

pub from-long : (words : List ℕ) (at key : ℕ) → 0 < at → search_from 0 words at key ≡ ended 0 search_end.TooLong
unfolding search_from
from-long words zero key h = absurd (omega arith)
from-long words (suc n) key h = refl

pub from-visit : (left : ℕ) (words : List ℕ) (n key : ℕ) → search_from (suc left) words (suc n) key ≡ visited (visit_of words n key) (λ next. search_from left words next key)
unfolding search_from
from-visit left words n key = refl

pub more-loads : (m n : ℕ) (x : Searched) → loaded_before m (loaded_before n x) ≡ loaded_before (m + n) x
more-loads m n x = let e : m + (n + x.loads) ≡ m + n + x.loads = omega arith in ap (λ (k : ℕ). ended k x.end) e

pub none-before : (x : Searched) → x ≡ loaded_before 0 x
none-before x = let e : x.loads ≡ 0 + x.loads = omega arith in ap (λ (k : ℕ). ended k x.end) e

pub loaded-more : {A : Type 0} → (loaded : A → A) (n : ℕ) (b : A) → loaded (loaded_times loaded n b) ≡ loaded_times loaded (n + 1) b
loaded-more loaded n b = let e : n + 1 ≡ suc n = omega arith in rw e refl

-- how a search ends, where `k` loads were made
pub exit-none : (x : Searched) (k left : ℕ) (words : List ℕ) (at key : ℕ) → x ≡ loaded_before k (search_from left words at key) → at ≡ 0 → x ≡ ended k search_end.Absent
exit-none x k left words at key h e =
    subst (λ (a : ℕ). x ≡ loaded_before k (search_from left words a key)) e h ∙ ap (loaded_before k) (from-none left words key) ∙ ap (λ (n : ℕ). ended n search_end.Absent) (add-zero k)

pub exit-long : (x : Searched) (k left : ℕ) (words : List ℕ) (at key : ℕ) → x ≡ loaded_before k (search_from left words at key) → left ≡ 0 → 0 < at → x ≡ ended k search_end.TooLong
exit-long x k left words at key h e more =
    subst (λ (a : ℕ). x ≡ loaded_before k (search_from a words at key)) e h ∙ ap (loaded_before k) (from-long words at key more) ∙ ap (λ (n : ℕ). ended n search_end.TooLong) (add-zero k)

-- what is left after an examined node, where `i` were examined of `n`
pub rest-visit : (x : Searched) (n i : ℕ) (words here : List ℕ) (at node key : ℕ) (v w : Visit) → x ≡ loaded_before i (search_from (n - i) words at key)
    → i < n → at ≡ suc node → v ≡ visit_of here node key → here ≡ words → v ≡ w
    → x ≡ loaded_before i (visited w (λ next. search_from (n - (i + 1)) words next key))
rest-visit x n i words here at node key v w h less is said same f =
    let a : n - i ≡ suc (n - (i + 1)) = omega arith in
    let e : w ≡ visit_of words node key = sym f ∙ subst (λ (ws : List ℕ). v ≡ visit_of ws node key) same said in
    h ∙ ap (loaded_before i) (rw (a, is, e) (from-visit (n - (i + 1)) words node key))

pub said-end : (x : Searched) (n : ℕ) (r : Search) → x ≡ ended n r → r ≡ x.end
said-end x n r e = sym (ap (λ (y : Searched). y.end) e)

pub said-bus : {A : Type 0} → (loaded : A → A) (x : Searched) (n : ℕ) (r : Search) (bus b : A) → x ≡ ended n r → bus ≡ loaded_times loaded n b → bus ≡ loaded_times loaded x.loads b
said-bus loaded x n r bus b e h = h ∙ sym (ap (λ (y : Searched). loaded_times loaded y.loads b) e)
