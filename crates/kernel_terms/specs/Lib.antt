pub mod FilterTables
