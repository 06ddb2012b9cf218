use Rattle.std.proofs.Common.{rules, ◌≡◌, ◌∙◌, ◌+◌, ◌/◌, ◌++◌, ℕ, List, length, sym, subst, ap, arith, length-append}
use Rattle.std.proofs.lemmas.Result.{err_from_is_err_and}
use Rattle.fp_journal.specs.Holds.{Holds}
use Rattle.fp_layout.specs.Layout.{IsActive, IsHead}
use Rattle.fp_layout.specs.Opening.{in_image}
use Rattle.fp_layout.proofs.Calls.{ok_no_fault}
use Rattle.fp_layout.proofs.Found.{head_found, head_is, head_there}
use Rattle.fp_layout.proofs.Refusals.{bytes_refuse}
use Rattle.fp_layout.proofs.opening.read_image.Goals as goal

pub returns-in-Ok-clause-found : goal.returns-in-Ok-clause-found
returns-in-Ok-clause-found g c = λ h.
    let D = g.D.Disk in let b = D.bytes c.args.disk.now in let r = c.args.ruling in let read = c.requires.read in let size = c.args.size in
    let image = c.in_ok-image.image.items in let long = c.in_ok-image.ensures.long in
    let stands = c.requires.stands h in let behind = c.in_ok-image.ensures.stands h in
    let active : IsActive b size r.slot r.other =
    record { side = read.side; slot_is = read.slot_is; other_is = read.other_is; rules = stands.ruling.rules } in
    let head : IsHead b r.slot.start size r.head.version r.head.generation r.head.base image =
    head_found r.head.version r.head.generation r.head.base r.head.len r.text image read.text_is long b r.slot.start
    size read.known read.numbered read.low read.small stands.text behind in
    let text : c.push.new.self ≡ r.text ++ image = search rules in let len : c.len.result ≡ length image = search rules in
    record {
      front = record {
        size = size;
        other = r.other;
        version = r.head.version;
        generation = r.head.generation;
        base = r.head.base;
        image = image;
        header = c.requires.header h;
        active = active;
        head = head;
        begun = search rules;
        place = ap (λ (n : ℕ). r.slot.start + 22 + n) len;
      };
      slots = record {
        size = size;
        header = c.requires.header h;
        active = active;
        version_is =
            head.version_is;
        generation_is = head.generation_is;
      };
      gate = stands.ruling.gate;
      text = subst (λ (t : List ℕ). Holds b r.slot.start t) (sym text)
          (head_there r.head.version r.head.generation r.head.base r.head.len r.text image read.text_is long b
          r.slot.start stands.text behind);
      long = c.requires.long h;
    }

pub returns-in-Err-BadBody-clause-fault : goal.returns-in-Err-BadBody-clause-fault
returns-in-Err-BadBody-clause-fault g c = λ h.
    let D = g.D.Disk in let b = D.bytes c.args.disk.now in let r = c.args.ruling in let read = c.requires.read in let size = c.args.size in
    let image = c.in_ok-image.image.items in let stands = c.requires.stands h in
    let active : IsActive b size r.slot r.other =
    record { side = read.side; slot_is = read.slot_is; other_is = read.other_is; rules = stands.ruling.rules } in
    let head : IsHead b r.slot.start size r.head.version r.head.generation r.head.base image =
    head_found r.head.version r.head.generation r.head.base r.head.len r.text image read.text_is
    c.in_ok-image.ensures.long b r.slot.start size read.known read.numbered read.low read.small stands.text
    (c.in_ok-image.ensures.stands h) in
    let rejected : g.R.SlotReader.rejects c.args.reader.now r.head.version r.head.base (size / 2) image
    c.in-Err-BadBody.at = search rules in
    in_image size r.head.version r.head.generation r.head.base r.slot r.other image c.in-Err-BadBody.at
    (c.requires.header h) active head rejected (ap (λ (n : ℕ). r.slot.start + 22 + n) c.in-Err-BadBody.at-is)

pub returns-clause-kept : goal.returns-clause-kept
returns-clause-kept g c = c.read_bytes.ensures.kept

pub returns-in-Err-BadBody-clause-kept : goal.returns-in-Err-BadBody-clause-kept
returns-in-Err-BadBody-clause-kept g c = c.read_bytes.ensures.kept

pub returns-in-Ok-clause-kept : goal.returns-in-Ok-clause-kept
returns-in-Ok-clause-kept g c = c.read_bytes.ensures.kept

pub returns-in_err-image-clause-kept : goal.returns-in_err-image-clause-kept
returns-in_err-image-clause-kept g c = c.read_bytes.ensures.kept

pub returns-in-Ok-clause-no_failure : goal.returns-in-Ok-clause-no_failure
returns-in-Ok-clause-no_failure g c = c.in_ok-image.ensures.no_failure

pub returns-in-Ok-clause-cause : goal.returns-in-Ok-clause-cause
returns-in-Ok-clause-cause g c = λ e. absurd (ok_no_fault e)

pub returns-in_err-image-clause-read : goal.returns-in_err-image-clause-read
returns-in_err-image-clause-read g c =
    let p = err_from_is_err_and c.from_residual.result c.from_residual.ensures.1 in rw p.1 tt

pub returns-in_err-image-clause-no_failure : goal.returns-in_err-image-clause-no_failure
returns-in_err-image-clause-no_failure g c =
    let p = err_from_is_err_and c.from_residual.result c.from_residual.ensures.1 in rw p.1 tt

pub returns-in_err-image-clause-found : goal.returns-in_err-image-clause-found
returns-in_err-image-clause-found g c = λ h.
    let p = err_from_is_err_and c.from_residual.result c.from_residual.ensures.1 in rw p.1 tt

pub returns-in_err-image-clause-fault : goal.returns-in_err-image-clause-fault
returns-in_err-image-clause-fault g c = λ h.
    let p = err_from_is_err_and c.from_residual.result c.from_residual.ensures.1 in
    rw (p.1, p.2) (bytes_refuse g.R.SlotReader.rejects (g.D.Disk.bytes c.args.disk.now) c.args.reader.now c.in_err-image.field-0.0)

pub returns-in-Ok-clause-read : goal.returns-in-Ok-clause-read
returns-in-Ok-clause-read g c =
    let r = c.args.ruling in let read = c.requires.read in let image = c.in_ok-image.image.items in let long = c.in_ok-image.ensures.long in
    let text : c.push.new.self ≡ r.text ++ image = search rules in let len : c.len.result ≡ length image = search rules in
    let small = read.small in let within = read.within in let joined = length-append r.text image in
    let front = ap length read.text_is in let all = ap length text in
    record {
      read = record {
        size = c.args.size;
        side = read.side;
        base = r.head.base;
        image = image;
        allowed = read.allowed;
        slot_is = read.slot_is;
        other_is = read.other_is;
        text_is = text ∙ head_is r.head.version r.head.generation r.head.base r.head.len r.text image read.text_is long;
        known = read.known;
        numbered = read.numbered;
        low = read.low;
        small = omega (arith, small, long);
        begun = search rules;
      };
      place = omega (arith, len, joined, front, all);
      within = omega (arith, len, long, within);
    }
