use Rattle.std.proofs.Common.{◌≡◌, ◌-◌, ◌≤◌, length, sym, ap, ◌∙◌, arith, length-drop, length-take}
use borrow.Rule.Slice.PartMut.{put_mid}
use Rattle.listing.specs.Output.{most_length}
use Rattle.listing.proofs.Writing.{counted, long_put, written_put, no_room}
use Rattle.listing.proofs.output.Output.put.Goals as goal
use Rattle.listing.proofs.output.Output.put.Goals.{then-end-self, else-end-self}

pub returns : goal.returns
returns c = elim c.if-end-self.branch [
  | then-end-self w ↦ record {
    adds = λ base text h.
        let short : length c.args.self.now.bytes.now ≤ most_length = omega arith in
        let exact : length c.args.more.now ≡ c.saturating_add-end.result - c.args.self.now.count = sym (ap length w.copy_from_slice.ensures.after) ∙ w.copy_from_slice.ensures.len ∙ simp (length-take, length-drop) (omega (arith, w.if-end-self.true, c.saturating_add-end.ensures)) in
        let bytes = c.args.self.now.bytes.now in
        let end = c.saturating_add-end.result in
        let now-are : c.if-end-self.self.bytes.now ≡ put_mid c.args.self.now.count (end - c.args.self.now.count) bytes c.args.more.now = ap (λ s. s.bytes.now) w.self-is ∙ ap (put_mid c.args.self.now.count (end - c.args.self.now.count) bytes) w.copy_from_slice.ensures.after in
        record {
          count = counted base text c.args.more.now bytes c.args.self.now.count end h.count h.long h.written c.saturating_add-end.ensures;
          long = ap length now-are ∙ long_put base text c.args.more.now bytes c.args.self.now.count end h.count h.long h.written c.saturating_add-end.ensures short w.if-end-self.true exact;
          written = λ k. now-are ∙ written_put base text c.args.more.now bytes c.args.self.now.count end h.count h.long h.written c.saturating_add-end.ensures short w.if-end-self.true exact k;
        };
    same = ap (λ s. s.bytes.ghost_name) w.self-is;
  }
  | else-end-self w ↦ record {
    adds = λ base text h. record {
      count = counted base text c.args.more.now c.args.self.now.bytes.now c.args.self.now.count c.saturating_add-end.result h.count h.long h.written c.saturating_add-end.ensures;
      long = ap (λ s. length s.bytes.now) w.self-is ∙ h.long;
      written = λ k. absurd (no_room base text c.args.more.now c.args.self.now.bytes.now c.args.self.now.count c.saturating_add-end.result h.count h.long h.written c.saturating_add-end.ensures w.if-end-self.false k);
    };
    same = ap (λ s. s.bytes.ghost_name) w.self-is;
  }
]
