-- The claims of specs/Claims.antt, each from its own file. Assumes nothing.
use mathlib.Core.Path.{subst}
use Rattle.gateway.specs.Invariant.{GatewayOk}
use Rattle.gateway.specs.Saved.{contents}
use Rattle.gateway.specs.Claims.{Lasting, ReadsBack, Claims}
use Rattle.gateway.proofs.Bytes.{decode_encode, encode_decode, encode_bytes, encode_short}
use Rattle.gateway.proofs.Begin.{Begins, set_up_begins, restore_begins, contents_fit}
use Rattle.gateway.proofs.Restart.{call_ok, restarts}
use Rattle.gateway.proofs.Examples.{examples}
use Rattle.gateway.proofs.FromRust.{from_rust}
use Rattle.gateway.proofs.Rejected.{refusing}
use Rattle.gateway.proofs.Roomy.{room_serves}
use Rattle.gateway.proofs.Settled.{settling}
use Rattle.gateway.proofs.Counted.{counts}
use Rattle.gateway.proofs.Fee.{charges, no_fee}

lasting : Lasting
lasting =
    record {
      set_up_ok = λ fee limit last l listing timing g f a x e. subst (Begins GatewayOk) e (set_up_begins fee limit last l listing timing f a x);
      restore_ok = λ fee limit l timing bs g a b e. subst (Begins GatewayOk) e (restore_begins fee limit l timing bs a b);
      call_ok = call_ok;
    }

reads_back : ReadsBack
reads_back =
    record {
      back = λ c ok. decode_encode (contents c.ledger) (contents_fit c ok);
      only = encode_decode;
      bytes = encode_bytes;
      short = λ c ok. encode_short (contents c.ledger) (contents_fit c ok);
    }

pub claimed : Claims
claimed =
    record {
      lasting = lasting;
      restarts = restarts;
      refuses = refusing;
      reads_back = reads_back;
      settling = settling;
      room_serves = room_serves;
      counts = counts;
      charges = charges;
      no_fee = no_fee;
      examples = examples;
      from_rust = from_rust;
    }
