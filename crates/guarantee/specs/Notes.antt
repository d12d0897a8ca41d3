-- What the change calls do to the notes: one slot joins the waiting list of e, its retirement, the next uid and the next order
-- number are set, and all else but the last slot taken stays.
use Rattle.std.specs.Prelude.{ℕ, ◌<◌, ◌≡◌, true, ◌≢◌, List}
use Rattle.std.proofs.Common.{◌∙◌}
use Rattle.image.specs.declared.name.Name.{Name}
use Rattle.transient.specs.declared.sizes.Sizes.{Sizes}
use Rattle.transient.specs.Layout.{note, next_uid_at, next_order_at, retired_in, is_waiting, set_note, set_retired, set_waiting}
use Rattle.transient.specs.Requires.{Notes, notes-after}
use Rattle.transient.specs.Laws.{HeadKept, SlotKept, head-then, slot-then, last-head, last-slots, last-uid, last-order, uid-head, uid-slots, uid-order, order-head, order-slots, order-uid, order-set, retired-front, waiting-front, uid-set, retired-same, retired-waiting, retired-aside, waiting-joined, waiting_stays, waiting-retired, waiting-aside, IndexOnly, beside-front, beside-slots}
use Rattle.index.specs.Laws.{inserted-only, removed-only}
use Rattle.table.specs.Fill.{joined, taken, freed}

pub record Joined (sz : Sizes) (tr tr' : List ℕ) (e s r u x : ℕ) : Type 0 where
  pub head : HeadKept sz tr tr'
  pub others : (m : ℕ) → m < sz.n → m ≢ s → SlotKept sz tr tr' m
  pub retired : retired_in sz tr' s ≡ r
  pub joins : is_waiting tr' e s ≡ true
  pub stays : (d : ℕ) → is_waiting tr d s ≡ true → is_waiting tr' d s ≡ true
  pub uid : note next_uid_at tr' ≡ u
  pub order : note next_order_at tr' ≡ x

module _ {tr : List ℕ} {sz : Sizes} (y : Notes tr sz) (e s : ℕ) (h : s < sz.n) where
  pub waiting-joins : Joined sz tr (set_waiting tr e s) e s (retired_in sz tr s) (note next_uid_at tr) (note next_order_at tr)
  waiting-joins =
      record {
        head = (waiting-front y e s h).head;
        others = λ m k d. waiting-aside y e s h m k d;
        retired = waiting-retired y e s h s h;
        joins = waiting-joined y e s h;
        stays = λ d q. waiting_stays y e s h d q;
        uid = (waiting-front y e s h).uid;
        order = (waiting-front y e s h).order;
      }

  pub joined-joins : Joined sz tr (joined sz tr e s) e s 0 (note next_uid_at tr) (note next_order_at tr)
  unfolding joined
  joined-joins =
      let tr' = set_retired sz tr s 0 in
      let a = (retired-front tr sz s 0).head in
      let y' : Notes tr' sz = notes-after a.long y in
      record {
        head = head-then a (waiting-front y' e s h).head;
        others = λ m k d. slot-then (retired-aside y s 0 m k d) (waiting-aside y' e s h m k d);
        retired = waiting-retired y' e s h s h ∙ retired-same y s 0 h;
        joins = waiting-joined y' e s h;
        stays = λ d q. waiting_stays y' e s h d (retired-waiting y s 0 d s h ∙ q);
        uid = (waiting-front y' e s h).uid ∙ (retired-front tr sz s 0).uid;
        order = (waiting-front y' e s h).order ∙ (retired-front tr sz s 0).order;
      }

-- .. and what changes besides is the index alone
module _ {tr tr' tr'' : List ℕ} {sz : Sizes} {e s r u x : ℕ} (j : Joined sz tr tr' e s r u x) (h : s < sz.n) (o : IndexOnly sz tr' tr'') where
  beside-joins : Joined sz tr tr'' e s r u x
  beside-joins =
      let front = beside-front o in
      let kept = beside-slots o in
      record {
        head = head-then j.head front.head;
        others = λ m k d. slot-then (j.others m k d) (kept m k);
        retired = (kept s h).retired ∙ j.retired;
        joins = (kept s h).waiting e ∙ j.joins;
        stays = λ d q. (kept s h).waiting d ∙ j.stays d q;
        uid = front.uid ∙ j.uid;
        order = front.order ∙ j.order;
      }

module _ {tr : List ℕ} {sz : Sizes} (y : Notes tr sz) (e s : ℕ) (name : Name) (h : s < sz.n) where
  pub freed-joins : Joined sz tr (freed sz tr e s name) e s 0 (note next_uid_at tr) (note next_order_at tr)
  unfolding freed
  freed-joins = beside-joins (joined-joins y e s h) h (removed-only sz _ name s)

  pub taken-joins : Joined sz tr (taken sz tr e s name) e s 0 (note next_uid_at tr) (note next_order_at tr)
  unfolding taken
  taken-joins =
      let a = last-head tr sz s in
      let j = joined-joins (notes-after a.long y) e s h in
      beside-joins (record {
        head = head-then a j.head;
        others = λ m k d. slot-then (last-slots tr sz s m) (j.others m k d);
        retired = j.retired;
        joins = j.joins;
        stays = λ d q. j.stays d ((last-slots tr sz s s).waiting d ∙ q);
        uid = j.uid ∙ last-uid tr sz s;
        order = j.order ∙ last-order tr sz s;
      }) h (inserted-only sz _ name s)

  pub made-joins : (u : ℕ) → Joined sz tr (set_note next_uid_at (taken sz tr e s name) u) e s 0 u (note next_order_at tr)
  made-joins u =
      let j = taken-joins in
      let kept = uid-slots (taken sz tr e s name) sz u in
      record {
        head = head-then j.head (uid-head (taken sz tr e s name) sz u);
        others = λ m k d. slot-then (j.others m k d) (kept m);
        retired = (kept s).retired ∙ j.retired;
        joins = (kept s).waiting e ∙ j.joins;
        stays = λ d q. (kept s).waiting d ∙ j.stays d q;
        uid = uid-set (notes-after j.head.long y) u;
        order = uid-order (taken sz tr e s name) sz u ∙ j.order;
      }

-- .. and another order number is set
pub order-joins : {tr tr' : List ℕ} {sz : Sizes} {e s r u x : ℕ} → Notes tr sz → Joined sz tr tr' e s r u x → (y : ℕ) → Joined sz tr (set_note next_order_at tr' y) e s r u y
order-joins {tr} {tr'} {sz} {e} {s} z j y =
    let kept = order-slots tr' sz y in
    record {
      head = head-then j.head (order-head tr' sz y);
      others = λ m k d. slot-then (j.others m k d) (kept m);
      retired = (kept s).retired ∙ j.retired;
      joins = (kept s).waiting e ∙ j.joins;
      stays = λ d q. (kept s).waiting d ∙ j.stays d q;
      uid = order-uid tr' sz y ∙ j.uid;
      order = order-set (notes-after j.head.long z) y;
    }
