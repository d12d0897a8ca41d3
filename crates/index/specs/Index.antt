-- 02, No. 6: "Please keep a hashed index in the notes, beside the images, covering all filled slots by board and key."
-- Each bucket has a chain of slots, which goes up: a link is one more than the slot that it leads to, and one that leads to no slot further
-- up ends the chain.
use Rattle.std.specs.Prelude.{ℕ, zero, suc, ◌+◌, ◌*◌, ◌%◌, Bool, cond, List, get_or, set, ltb, eqb}
use Rattle.image.specs.Layout.{is_filled, header}
use Rattle.image.specs.declared.name.Name.{Name}
use Rattle.image.specs.Name.{name_at}
use Rattle.transient.specs.declared.sizes.Sizes.{Sizes}
use Rattle.transient.specs.Layout.{bucket_at, link_at}
use Rattle.chains.specs.Chains.{spot}

-- "hashed .. by board and key": the bucket of a name, one of n
unfoldable pub bucket_of : ℕ → Name → ℕ
bucket_of n name = spot n ((name.key * 23208431 + name.board * 2246822519) % 4294967296)

-- where the link stands that leads past the slots below s: the bucket's, or that of the last slot below s on its chain
unfoldable pub place_of : Sizes → List ℕ → ℕ → ℕ → ℕ
place_of z tr b zero = bucket_at z b
place_of z tr b (suc s) = cond (eqb (get_or tr (place_of z tr b s) 0) (suc s)) (link_at z s) (place_of z tr b s)

-- does slot s stand on the chain of bucket b?
unfoldable pub on_chain : Sizes → List ℕ → ℕ → ℕ → Bool
on_chain z tr b s = eqb (get_or tr (place_of z tr b s) 0) (suc s)

-- slot s joins the chain of a name: what led past it leads to it, and it leads on
unfoldable pub inserted : Sizes → List ℕ → Name → ℕ → List ℕ
inserted z tr name s =
    let at = place_of z tr (bucket_of z.n name) s in
    set (set tr (link_at z s) (get_or tr at 0)) at (suc s)

-- it leaves the chain: what led to it leads on as it did, or nowhere where it led back
unfoldable pub removed : Sizes → List ℕ → Name → ℕ → List ℕ
removed z tr name s =
    let next = get_or tr (link_at z s) 0 in
    set tr (place_of z tr (bucket_of z.n name) s) (cond (ltb (suc s) next) next 0)

-- "It is rebuilt by recovery": the filled slots below k join, the highest first
unfoldable pub rebuilt : Sizes → List ℕ → List ℕ → ℕ → List ℕ
rebuilt z wk tr zero = tr
rebuilt z wk tr (suc k) = rebuilt z wk (cond (is_filled (header wk k)) (inserted z tr (name_at wk z.n z.w k) k) tr) k
