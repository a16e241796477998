pub mod PairCalls
pub mod PairPlans
pub mod PairLists
