-- A command's row as `rowanchess_take_batch` writes it, `rowanchess_replay_command` reads as that command. Assumes nothing.
use Prim.Native.Nat.{ℕ, ◌^◌, ◌<◌, ◌%◌}
use mathlib.Core.Path.{◌≡◌, refl, ap, ap₂, ◌∙◌}
use mathlib.Core.List.{List}
use native.Mathlib.Omega.{arith}
use lib.Dec.{lit<}
use lib.ListN.{get_or}
use Rattle.orderbook.specs.declared.TimeInForce.{TimeInForce}
use Rattle.orderbook.specs.declared.TimeInForce.TheVariants.{Gtc, Ioc, Fok, PostOnly}
use Rattle.orderbook.specs.declared.Command.{Command}
use Rattle.orderbook.specs.declared.Command.TheVariants.{Limit, Market, Cancel, Modify, Stop, CancelAll, SetPhase}
use Rattle.protocol.specs.Codes.{tif_code, tif_of}
use Rattle.words.specs.Words.{int}
use Rattle.words.proofs.Int.{int_of}
use Rattle.gateway.specs.Ledger.{owner_of}
use Rattle.store.specs.View.{side, maybe_price, maybe_qty}
use Rattle.pending.specs.Pending.{command_row, Batched, Typed}
use Rattle.pending.proofs.Commands.{side_back, qty_back, price_back}
use Rattle.script.specs.Script.{word_at, tif_or}
use Rattle.script.specs.Records.{command_by, command_of}

tif_back : (t : TimeInForce) → tif_or (tif_of (tif_code t % 256)) ≡ t
tif_back Gtc = refl
tif_back Ioc = refl
tif_back Fok = refl
tif_back PostOnly = refl

small_back : (n : ℕ) → n < 2 ^ 32 → n % 4294967296 ≡ n
small_back n l = omega arith

-- the words of xs are the cells of the command's row
abbrev pub Written : Command → List ℕ → Type 0
Written c xs = (i : ℕ) → i < 12 → word_at xs i ≡ get_or (command_row c) i 0

module _ (xs : List ℕ) where
  kind : (k : ℕ) → word_at xs 0 ≡ k → command_of xs ≡ command_by k xs
  unfolding command_of
  kind k e = ap (λ n. command_by n xs) e

  owner : (c : Command) → Written c xs → (n : ℕ) → get_or (command_row c) 2 0 ≡ n → n < 2 ^ 32 → word_at xs 2 % 4294967296 ≡ n
  owner c h n e l = ap (λ w. w % 4294967296) (h 2 (lit< tt) ∙ e) ∙ small_back n l

  pub reads_back : (c : Command) → Batched c → Typed c → Written c xs → command_of xs ≡ c
  unfolding owner_of
  reads_back (Limit id o s p q t d) b f h =
      kind 0 (h 0 (lit< tt))
      ∙ (λ j.
      Limit (h 1 (lit< tt) j) (owner (Limit id o s p q t d) h o refl f.owner_fits j) ((ap side (h 3 (lit< tt)) ∙ side_back s) j) ((ap int (h 4 (lit< tt)) ∙ int_of p f.prices_fit) j) (h 5 (lit< tt) j)
      ((ap (λ w. tif_or (tif_of (w % 256))) (h 6 (lit< tt)) ∙ tif_back t) j) ((ap₂ maybe_qty (h 7 (lit< tt)) (h 8 (lit< tt)) ∙ qty_back d) j))
  reads_back (Market id o s q) b f h =
      kind 1 (h 0 (lit< tt)) ∙ (λ j. Market (h 1 (lit< tt) j) (owner (Market id o s q) h o refl f.owner_fits j) ((ap side (h 3 (lit< tt)) ∙ side_back s) j) (h 5 (lit< tt) j))
  reads_back (Cancel id o) b f h = kind 2 (h 0 (lit< tt)) ∙ (λ j. Cancel (h 1 (lit< tt) j) (owner (Cancel id o) h o refl f.owner_fits j))
  reads_back (Modify id o p q) b f h =
      kind 3 (h 0 (lit< tt)) ∙ (λ j. Modify (h 1 (lit< tt) j) (owner (Modify id o p q) h o refl f.owner_fits j) ((ap int (h 4 (lit< tt)) ∙ int_of p f.prices_fit) j) (h 5 (lit< tt) j))
  reads_back (Stop id o s t l q) b f h =
      kind 4 (h 0 (lit< tt))
      ∙ (λ j.
      Stop (h 1 (lit< tt) j) (owner (Stop id o s t l q) h o refl f.owner_fits j) ((ap side (h 3 (lit< tt)) ∙ side_back s) j) ((ap int (h 9 (lit< tt)) ∙ int_of t f.prices_fit.0) j)
      ((ap₂ maybe_price (h 10 (lit< tt)) (h 11 (lit< tt)) ∙ price_back l f.prices_fit.1) j) (h 5 (lit< tt) j))
  reads_back (CancelAll o) b f h = kind 5 (h 0 (lit< tt)) ∙ (λ j. CancelAll (owner (CancelAll o) h o refl f.owner_fits j))
  reads_back (SetPhase p) b f h = absurd b
