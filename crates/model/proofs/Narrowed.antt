-- When one capability gives no more than another, what follows from it, and which changes of a capability give no more.
use Rattle.std.proofs.Common.{◌≡◌, ℕ, Bool, ◌&&◌, T, leb, ◌≢◌, refl, subst, le_trans, le_refl, lt_of_lt_of_le, le→leb, leb→le}
use Rattle.words.specs.declared.permission.Permission.{Permission}
use Rattle.words.specs.declared.permission.Permission.TheVariants.{O, RO, RW, RWL, RX, E, RWX, RWLX}
use Rattle.words.specs.declared.locality.Locality.{Locality}
use Rattle.words.specs.declared.locality.Locality.TheVariants.{Global, Local}
use Rattle.words.specs.Permissions.{writes, stores_local, enter}
use Rattle.words.specs.Word.{Cap, Covers, with_cursor, with_rights, with_bounds}
use Rattle.words.specs.Orders.{implies, below_permission, below_locality, inside}
use Rattle.model.specs.Authority.{NoMore}
use Rattle.model.proofs.Rows.{and_left, and_right, and_both, implied}

-- ── Permissions: what a test of all of them computes, holds of each ──

abbrev every : (Permission → Bool) → Bool
every f = f O && (f RO && (f RW && (f RWL && (f RX && (f E && (f RWX && f RWLX))))))

each : (f : Permission → Bool) → T (every f) → (p : Permission) → T (f p)
each f t O = and_left _ _ t
each f t RO = and_left _ _ (and_right (f O) _ t)
each f t RW = and_left _ _ (and_right (f RO) _ (and_right (f O) _ t))
each f t RWL = and_left _ _ (and_right (f RW) _ (and_right (f RO) _ (and_right (f O) _ t)))
each f t RX = and_left _ _ (and_right (f RWL) _ (and_right (f RW) _ (and_right (f RO) _ (and_right (f O) _ t))))
each f t E = and_left _ _ (and_right (f RX) _ (and_right (f RWL) _ (and_right (f RW) _ (and_right (f RO) _ (and_right (f O) _ t)))))
each f t RWX = and_left _ _ (and_right (f E) _ (and_right (f RX) _ (and_right (f RWL) _ (and_right (f RW) _ (and_right (f RO) _ (and_right (f O) _ t))))))
each f t RWLX = and_right _ _ (and_right (f E) _ (and_right (f RX) _ (and_right (f RWL) _ (and_right (f RW) _ (and_right (f RO) _ (and_right (f O) _ t))))))

-- the same of pairs and of triples, where a test of the first two implies another
pairwise : (f : Permission → Permission → Bool) → T (every (λ p. every (λ q. f p q))) → (p q : Permission) → T (f p q)
pairwise f t p q = each (λ y. f p y) (each (λ x. every (λ y. f x y)) t p) q

-- p is below what a jump makes of q
abbrev under : Permission → Permission → Bool
under p q = below_permission p (enter q)

under_refl : (p : Permission) → T (under p p)
under_refl = each (λ p. under p p) tt

under_trans : (p q r : Permission) → T (under p q) → T (under q r) → T (under p r)
under_trans p q r h k =
    implied (under p q && under q r) (under p r)
    (each (λ z. implies (under p q && under q z) (under p z)) (pairwise (λ x y. every (λ z. implies (under x y && under y z) (under x z))) tt p q) r)
    (and_both (under p q) (under q r) h k)

below_under : (p q : Permission) → T (below_permission p q) → T (under p q)
below_under p q = implied (below_permission p q) (under p q) (pairwise (λ x y. implies (below_permission x y) (under x y)) tt p q)

enter_under : (p : Permission) → T (under (enter p) p)
enter_under = each (λ p. under (enter p) p) tt

under_writes : (p q : Permission) → T (under p q) → T (writes p) → T (writes q)
under_writes p q h k =
    implied (under p q && writes p) (writes q) (pairwise (λ x y. implies (under x y && writes x) (writes y)) tt p q) (and_both (under p q) (writes p) h k)

under_stores : (p q : Permission) → T (under p q) → T (stores_local p) → T (stores_local q)
under_stores p q h k =
    implied (under p q && stores_local p) (stores_local q) (pairwise (λ x y. implies (under x y && stores_local x) (stores_local y)) tt p q)
    (and_both (under p q) (stores_local p) h k)

under_O : (p : Permission) → T (under p O) → p ≡ O
under_O O t = refl
under_O RO t = absurd t
under_O RW t = absurd t
under_O RWL t = absurd t
under_O RX t = absurd t
under_O E t = absurd t
under_O RWX t = absurd t
under_O RWLX t = absurd t

-- ── Localities and bounds ──

locality_refl : (l : Locality) → T (below_locality l l)
locality_refl Global = tt
locality_refl Local = tt

locality_trans : (l k j : Locality) → T (below_locality l k) → T (below_locality k j) → T (below_locality l j)
locality_trans Local k j h i = tt
locality_trans Global Global j h i = i
locality_trans Global Local j h i = absurd h

below_global : (l k : Locality) → T (below_locality l k) → l ≡ Global → k ≡ Global
below_global Local k t e = absurd (subst (λ (x : Locality). T (below_locality x Local)) e tt)
below_global Global Global t e = refl
below_global Global Local t e = absurd t

inside_refl : (b e : ℕ) → T (inside b e b e)
inside_refl b e = and_both (leb b b) (leb e e) (le→leb b b (le_refl b)) (le→leb e e (le_refl e))

inside_trans : (b e b' e' b'' e'' : ℕ) → T (inside b e b' e') → T (inside b' e' b'' e'') → T (inside b e b'' e'')
inside_trans b e b' e' b'' e'' h k =
    and_both (leb b'' b) (leb e e'')
    (le→leb b'' b (le_trans (leb→le b'' b' (and_left (leb b'' b') (leb e' e'') k)) (leb→le b' b (and_left (leb b' b) (leb e e') h))))
    (le→leb e e'' (le_trans (leb→le e e' (and_right (leb b' b) (leb e e') h)) (leb→le e' e'' (and_right (leb b'' b') (leb e' e'') k))))

-- ── Capabilities ──

pub no_more_refl : {c : Cap} → NoMore c c
no_more_refl {c} = record { permission = under_refl c.permission; locality = locality_refl c.locality; bounds = inside_refl c.base c.end }

pub no_more_trans : {c d e : Cap} → NoMore c d → NoMore d e → NoMore c e
no_more_trans {c} {d} {e} n k = record {
  permission = under_trans c.permission d.permission e.permission n.permission k.permission;
  locality = locality_trans c.locality d.locality e.locality n.locality k.locality;
  bounds = inside_trans c.base c.end d.base d.end e.base e.end n.bounds k.bounds;
}

module _ {c d : Cap} (n : NoMore c d) where
  pub not_O : c.permission ≢ O → d.permission ≢ O
  not_O h e = h (under_O c.permission (subst (λ (q : Permission). T (under c.permission q)) e n.permission))

  pub can_write : T (writes c.permission) → T (writes d.permission)
  can_write = under_writes c.permission d.permission n.permission

  pub can_store : T (stores_local c.permission) → T (stores_local d.permission)
  can_store = under_stores c.permission d.permission n.permission

  pub is_global : c.locality ≡ Global → d.locality ≡ Global
  is_global = below_global c.locality d.locality n.locality

  pub within : (a : ℕ) → Covers c a → Covers d a
  within a h = (
    le_trans (leb→le d.base c.base (and_left (leb d.base c.base) (leb c.end d.end) n.bounds)) h.0,
    lt_of_lt_of_le h.1 (leb→le c.end d.end (and_right (leb d.base c.base) (leb c.end d.end) n.bounds)),
  )

-- ── The changes of a capability ──

pub narrowed_cursor : (c : Cap) (n : ℕ) → NoMore (with_cursor c n) c
narrowed_cursor c n = record { permission = under_refl c.permission; locality = locality_refl c.locality; bounds = inside_refl c.base c.end }

pub narrowed_rights : (c : Cap) (p : Permission) (l : Locality) → T (below_permission p c.permission && below_locality l c.locality) → NoMore (with_rights c p l) c
narrowed_rights c p l t = record {
  permission = below_under p c.permission (and_left (below_permission p c.permission) (below_locality l c.locality) t);
  locality = and_right (below_permission p c.permission) (below_locality l c.locality) t;
  bounds = inside_refl c.base c.end;
}

pub narrowed_bounds : (c : Cap) (b e : ℕ) → T (inside b e c.base c.end) → NoMore (with_bounds c b e) c
narrowed_bounds c b e t = record { permission = under_refl c.permission; locality = locality_refl c.locality; bounds = t }

pub narrowed_entry : (c : Cap) → NoMore (with_rights c (enter c.permission) c.locality) c
narrowed_entry c = record { permission = enter_under c.permission; locality = locality_refl c.locality; bounds = inside_refl c.base c.end }
