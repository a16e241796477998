pub mod FireLaws
pub mod RingLaws
pub mod ManyLaws
pub mod SlideLaws
pub mod GlidingLaws
